use mathlib.Core.Path.{◌≡◌, sym, ◌∙◌}
use Rattle.std.specs.Prelude.{min}
use native.Mathlib.Omega.{arith}
use Rattle.protocol.proofs.LockLaws.{held_none, held_more}
use Rattle.plan.specs.First.{locks_of}
use Rattle.locks.proofs.First.{held_at, locks_first, not_held, within}
use Rattle.locks.proofs.all_held.Goals as goal

pub loop-i-init : goal.loop-i-init
loop-i-init c = sym (held_none _ _)

pub returns-then-not-held_one : goal.returns-then-not-held_one
returns-then-not-held_one c =
    let l = c.loop-i in
    let a = c.args in
    let m : c.min-asked.result ≡ min a.done (locks_of a.phase) = rw c.locks_of.ensures at c.min-asked.ensures in
    let b = within l.i a.done a.phase c.min-asked.result m c.loop-i-test.true in
    let e = rw (c.hold_at.ensures b, held_at a.words.now a.phase l.i b) at (sym c.held_one.ensures ∙ c.if-not-held_one.true) in
    sym (sym (locks_first a.words.now a.phase a.done).0 ∙ not_held a.words.now a.phase _ l.i (rw m at c.loop-i-test.true) e)

pub loop-i-preserved : goal.loop-i-preserved
loop-i-preserved c =
    let l = c.loop-i in
    let a = c.args in
    let m : c.min-asked.result ≡ min a.done (locks_of a.phase) = rw c.locks_of.ensures at c.min-asked.ensures in
    let b = within l.i a.done a.phase c.min-asked.result m c.loop-i-test.true in
    let e = rw (c.hold_at.ensures b, held_at a.words.now a.phase l.i b) at (sym c.held_one.ensures ∙ c.if-not-held_one.false) in
    sym (held_more _ _ _) ∙ rw (l.invariant, e)

pub returns : goal.returns
returns c =
    let l = c.loop-i in
    let a = c.args in
    let m : c.min-asked.result ≡ min a.done (locks_of a.phase) = rw c.locks_of.ensures at c.min-asked.ensures in
    let e : l.i ≡ min a.done (locks_of a.phase) = omega (arith, m, c.loop-i-test.false) in
    sym l.invariant ∙ rw e (locks_first a.words.now a.phase a.done).0
