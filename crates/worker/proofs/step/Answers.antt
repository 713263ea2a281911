use mathlib.Core.Path.{sym, ap, ◌∙◌}
use native.Mathlib.Omega.{arith}
use Rattle.std.specs.Prelude.{Ok}
use Rattle.worker.proofs.MovingLaws.{told_as, on_done}
use Rattle.worker.proofs.step.Goals as goal

pub overflow_add-done_of : goal.overflow_add-done_of
overflow_add-done_of c =
    let a = c.args in
    let e = c.in-Ok-On.is ∙ ap Ok c.in-Ok-On.field-0-is in
    record { fits = omega (arith, c.done_of.ensures, on_done a.words.now a.w (sym e ∙ c.move_on.ensures.0)) }

pub returns-in-Ok-On : goal.returns-in-Ok-On
returns-in-Ok-On c =
    let a = c.args in
    let r = told_as a.words.now _ a.w _ _ c.move_on.ensures.0 (c.in-Ok-On.is ∙ ap Ok c.in-Ok-On.field-0-is) c.move_on.ensures.1 in
    (r.0, rw (c.with_done.ensures, c.done_of.ensures) r.1, r.2)

pub returns-in-Ok-To : goal.returns-in-Ok-To
returns-in-Ok-To c =
    let a = c.args in
    told_as a.words.now _ a.w _ _ c.move_on.ensures.0 (c.in-Ok-To.is ∙ ap Ok c.in-Ok-To.field-0-is) c.move_on.ensures.1

pub returns-in-Ok-Over : goal.returns-in-Ok-Over
returns-in-Ok-Over c =
    let a = c.args in
    let r = told_as a.words.now _ a.w _ _ c.move_on.ensures.0 (c.in-Ok-Over.is ∙ ap Ok c.in-Ok-Over.field-0-is) c.move_on.ensures.1 in
    (r.0, c.idle_worker.ensures ∙ r.1, r.2)

pub returns-in-Err : goal.returns-in-Err
returns-in-Err c =
    let a = c.args in
    told_as a.words.now _ a.w _ _ c.move_on.ensures.0 c.in-Err.is c.move_on.ensures.1
