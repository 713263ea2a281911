use Rattle.records.specs.Records.{worker_at}
use Rattle.calls.proofs.PlanCalls.{act_call, denied_moves, over_moves, denied_other, over_other}
use Rattle.calls.proofs.plans.act_step.Goals as goal

pub leave_step-requires : goal.leave_step-requires
unfolding worker_at
leave_step-requires c =
    let p = c.requires in
    let f = p.named.1 in
    let d = c.in-Some-Denied in
    let t = d.ensures in
    rw c.at_root.ensures (denied_moves _ _ _ _ (c.act_quick.ensures.1 (denied_other d.is d.field-0-is)) (p.ruled.0, rw f at p.ruled.1) (rw f at p.due) t.0.0 (rw (f, d.field-0-is) at t.0.1))

pub leave_step-requires-in-Some-Finished : goal.leave_step-requires-in-Some-Finished
unfolding worker_at
leave_step-requires-in-Some-Finished c =
    let p = c.requires in
    let f = p.named.1 in
    let d = c.in-Some-Finished in
    let t = d.ensures in
    over_moves _ _ _ _ _ (c.act_quick.ensures.1 (over_other d.is d.field-0-is)) (p.ruled.0, rw f at p.ruled.1) (rw f at p.due) t.0.0 (rw (f, d.field-0-is) at t.0.1)

pub returns-in-Some-Done : goal.returns-in-Some-Done
unfolding worker_at
returns-in-Some-Done c =
    let p = c.requires in
    let f = p.named.1 in
    let d = c.in-Some-Done in
    let t = d.ensures in
    act_call _ _ _ p.named.0 (p.ruled.0, rw f at p.ruled.1) (rw f at p.due) t.0.0 (rw (f, d.field-0-is) at t.0.1) c.count_on.ensures
