use Prim.Native.Nat.{◌+◌, ◌*◌}
use Rattle.table.specs.Free.{Sought}
use Rattle.table.proofs.free.free_of_eights.Given as goal

abbrev pub invariant-loop-e : goal.invariant-loop-e
invariant-loop-e l = Sought l.t (2 * (8 * l.e + 1) + 1)
