use Rattle.sort_frames.proofs.Short.{put_front, already_short}
use Rattle.sort_frames.proofs.printing.Paper.already.Goals as goal

pub returns : goal.returns
returns g c = let e = put_front _ _ _ _ c.already_line-size.ensures (already_short c.args.number) in rw e at c.print.ensures
