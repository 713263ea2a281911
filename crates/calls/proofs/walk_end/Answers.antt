use native.Mathlib.Omega.{arith}
use Rattle.records.proofs.Walks.{walk_length}
use Rattle.calls.proofs.WalkCalls.{walk_ends}
use Rattle.calls.proofs.walk_end.Goals as goal

pub bounds-lent-0 : goal.bounds-lent-0
bounds-lent-0 c = omega (arith, walk_length _ c.requires.0.0)

pub bounds-lent-0-2 : goal.bounds-lent-0-2
bounds-lent-0-2 c = omega (arith, walk_length _ c.requires.0.0)

pub bounds-lent-1 : goal.bounds-lent-1
bounds-lent-1 c = omega (arith, walk_length _ c.requires.0.0)

pub bounds-lent-3 : goal.bounds-lent-3
bounds-lent-3 c = omega (arith, walk_length _ c.requires.0.0)

pub bounds-lent-4 : goal.bounds-lent-4
bounds-lent-4 c = omega (arith, walk_length _ c.requires.0.0)

pub bounds-lent-6 : goal.bounds-lent-6
bounds-lent-6 c = omega (arith, walk_length _ c.requires.0.0)

pub bounds-lent-5 : goal.bounds-lent-5
bounds-lent-5 c = omega (arith, walk_length _ c.requires.0.0)

pub bounds-lent-7 : goal.bounds-lent-7
bounds-lent-7 c = omega (arith, walk_length _ c.requires.0.0)

pub returns : goal.returns
returns c =
    let u = c.put_moved in
    let k = c.kind_of-kind.ensures in
    let s = c.requires in
    let v = rw k at c.visit_on-m.ensures in
    let p = rw k at u.ensures in
    walk_ends _ _ c.visit_on-m.result s.0 v.0 p.0 p.1 v.1
