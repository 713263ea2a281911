use mathlib.Core.Path.{sym, ◌∙◌}
use Rattle.records.specs.Records.{worker_at}
use Rattle.calls.proofs.PlanCalls.{end_call, end_refused}
use Rattle.calls.proofs.plans.end_step.Goals as goal

pub returns-then-not-give_up : goal.returns-then-not-give_up
unfolding worker_at
returns-then-not-give_up c =
    let p = c.requires in
    let f = p.named.1 in
    let h = rw (c.done_of-done.ensures, c.phase_of-phase.ensures, f) at c.give_up.ensures in
    let r = end_refused _ _ p.named.0 (p.ruled.0, rw f at p.ruled.1) (rw f at p.due) (sym h.0 ∙ c.if-not-give_up.true) h.1 in
    (c.number.ensures ∙ r.0, r.1, r.2)

pub returns : goal.returns
unfolding worker_at
returns c =
    let p = c.requires in
    let f = p.named.1 in
    let h = rw (c.done_of-done.ensures, c.phase_of-phase.ensures, f) at c.give_up.ensures in
    end_call _ _ p.named.0 (p.ruled.0, rw f at p.ruled.1) (rw f at p.due) (sym h.0 ∙ c.if-not-give_up.false) c.put_idle.ensures (rw h.1 at c.leave_seat.ensures)
