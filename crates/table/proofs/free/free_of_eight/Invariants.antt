use Prim.Native.Nat.{◌+◌, ◌*◌}
use Rattle.table.specs.Free.{Sought}
use Rattle.table.proofs.free.free_of_eight.Given as goal

abbrev pub invariant-loop-i : goal.invariant-loop-i
invariant-loop-i l = Sought l.t (2 * l.i + 1)
