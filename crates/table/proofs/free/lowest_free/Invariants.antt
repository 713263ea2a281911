use Prim.Native.Nat.{◌+◌, ◌*◌}
use Rattle.table.specs.Free.{Sought}
use Rattle.table.proofs.free.lowest_free.Given as goal

abbrev pub invariant-loop-slot : goal.invariant-loop-slot
invariant-loop-slot l = Sought l.t (2 * l.slot + 1)
