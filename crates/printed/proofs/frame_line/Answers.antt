use mathlib.Core.Path.{sym, ◌∙◌}
use Rattle.printed.proofs.Puts.{frame_put}
use Rattle.printed.proofs.frame_line.Goals as goal

pub returns : goal.returns
returns c =
    frame_put _ _ c.unpack-f.result c.unpack-f.ensures (sym c.legal.ensures ∙ c.if-not-legal.false)
    c.put_number-a.ensures c.put_key-b.ensures c.put_text-c.ensures c.put_number-d.ensures c.put_number-e.ensures
