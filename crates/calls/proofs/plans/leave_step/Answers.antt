use mathlib.Core.Path.{sym, ◌∙◌}
use Rattle.records.proofs.Canonical.{read_nothing, read_record}
use Rattle.calls.specs.Numbers.{verdict_number}
use Rattle.calls.proofs.Calls.{unread_call}
use Rattle.calls.proofs.PlanCalls.{leave_call, leave_refused}
use Rattle.calls.proofs.plans.leave_step.Goals as goal

pub returns-in_default : goal.returns-in_default
returns-in_default c =
    unread_call verdict_number _ _ _ (read_nothing _ (sym c.read.ensures ∙ c.in_default.is)) (c.number.ensures ∙ c.unread.ensures)

pub returns-then-not-give_up : goal.returns-then-not-give_up
returns-then-not-give_up c =
    let h = read_record _ _ (sym c.read.ensures ∙ c.in-Some.is) in
    let e = rw (c.done_of-done.ensures, h.1) at c.give_up.ensures in
    let r = leave_refused _ _ _ h.0 c.requires (sym e.0 ∙ c.if-not-give_up.true) e.1 in
    (c.number-then-not-give_up.ensures ∙ r.0, r.1, r.2)

pub returns : goal.returns
returns c =
    let h = read_record _ _ (sym c.read.ensures ∙ c.in-Some.is) in
    let e = rw (c.done_of-done.ensures, h.1) at c.give_up.ensures in
    let p = rw h.1 at c.put_moved.ensures in
    leave_call _ _ _ h.0 c.requires (sym e.0 ∙ c.if-not-give_up.false) p.0 p.1 (rw e.1 at c.leave_by.ensures)
