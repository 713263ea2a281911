use Rattle.sort_frames.proofs.Short.{put_front, refused_short}
use Rattle.sort_frames.proofs.printing.Paper.refused.Goals as goal

pub returns : goal.returns
returns g c = let e = put_front _ _ _ _ c.refused_line-size.ensures (refused_short c.args.number c.args.refusal) in rw e at c.print.ensures
