use Rattle.std.proofs.Common.{◌≡◌, refl, sym, true≢false, ◌∙◌}
use Rattle.sort_frames.proofs.Short.{frame_front, frame_none}
use Rattle.sort_frames.proofs.printing.Paper.frame.Goals as goal

pub returns-in-Ok-clause-printed : goal.returns-in-Ok-clause-printed
returns-in-Ok-clause-printed g c legal ok = let e = (frame_front _ _ _ _ _ c.in-Ok.ensures.0 refl).1 in rw e at c.print.ensures ok

pub returns-in-Ok-clause-no_key : goal.returns-in-Ok-clause-no_key
returns-in-Ok-clause-no_key g c illegal = absurd (true≢false (sym (frame_front _ _ _ _ _ c.in-Ok.ensures.0 refl).0 ∙ illegal))

pub returns-in_default-clause-printed : goal.returns-in_default-clause-printed
returns-in_default-clause-printed g c legal ok = absurd (true≢false (sym legal ∙ frame_none _ _ _ _ c.in_default.ensures.0))
