use native.Mathlib.Omega.{arith}
use Rattle.records.proofs.Walks.{walk_length}
use Rattle.calls.proofs.WalkCalls.{lookup_call}
use Rattle.calls.proofs.lookup_end.Goals as goal

pub bounds-lent-3 : goal.bounds-lent-3
bounds-lent-3 c = omega (arith, walk_length _ c.requires.ends.0.0)

pub bounds-lent-1 : goal.bounds-lent-1
bounds-lent-1 c = omega (arith, walk_length _ c.requires.ends.0.0)

pub returns-then-found : goal.returns-then-found
returns-then-found c =
    let p = c.requires in
    lookup_call _ _ _ p.ends p.looks (rw (c.key.ensures, c.state.ensures) at c.if-found.true) c.put_idle.ensures c.leave_seat.ensures

pub returns-else-found : goal.returns-else-found
returns-else-found c =
    let p = c.requires in
    lookup_call _ _ _ p.ends p.looks (rw (c.key.ensures, c.state.ensures) at c.if-found.false) c.put_idle.ensures c.leave_seat.ensures
