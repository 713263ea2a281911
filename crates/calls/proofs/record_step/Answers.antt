use mathlib.Core.Path.{sym, ◌∙◌}
use Rattle.records.proofs.Canonical.{read_nothing, read_record}
use Rattle.calls.specs.Numbers.{verdict_number}
use Rattle.calls.proofs.Calls.{unread_call}
use Rattle.calls.proofs.MovedCalls.{moved_call}
use Rattle.calls.proofs.record_step.Goals as goal

pub returns-in_default : goal.returns-in_default
returns-in_default c =
    unread_call verdict_number _ _ _ (read_nothing _ (sym c.read.ensures ∙ c.in_default.is)) (c.number.ensures ∙ c.unread.ensures)

pub returns : goal.returns
returns c = let h = read_record _ _ (sym c.read.ensures ∙ c.in-Some.is) in
    let m = rw h.1 at c.move_on-m.ensures in
    let p = rw h.1 at c.put_moved.ensures in
    moved_call _ _ c.move_on-m.result h.0 m.0 p.0 p.1 m.1
