use mathlib.Core.Path.{◌≡◌, ◌∙◌}
use Rattle.std.specs.Prelude.{min}
use native.Mathlib.Omega.{arith}
use Rattle.protocol.proofs.LockLaws.{released_none, released_more}
use Rattle.plan.specs.First.{locks_of}
use Rattle.locks.proofs.First.{freed_at, locks_first, within}
use Rattle.locks.proofs.release_all.Goals as goal

pub loop-i-init : goal.loop-i-init
loop-i-init c = released_none _ _

pub loop-i-preserved : goal.loop-i-preserved
loop-i-preserved c =
    let l = c.loop-i in
    let a = c.args in
    let m : c.min-held.result ≡ min a.done (locks_of a.phase) = rw c.locks_of.ensures at c.min-held.ensures in
    let b = within l.i a.done a.phase c.min-held.result m c.loop-i-test.true in
    rw (← (released_more _ _ l.i), ← l.invariant, ← (freed_at l.words a.phase l.i b), ← (c.hold_at.ensures b)) c.release_one.ensures

pub returns : goal.returns
returns c =
    let l = c.loop-i in
    let a = c.args in
    let m : c.min-held.result ≡ min a.done (locks_of a.phase) = rw c.locks_of.ensures at c.min-held.ensures in
    let e : l.i ≡ min a.done (locks_of a.phase) = omega (arith, m, c.loop-i-test.false) in
    l.invariant ∙ rw e (locks_first a.words.now a.phase a.done).1
