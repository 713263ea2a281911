-- One lock that is held, judged and given up by what it holds: `held_one` and `release_one` of a lock, without what it expects.
-- `proofs/First.antt` has that these are the same at each place before the stores.
-- Assumes nothing.
use Rattle.std.specs.Prelude.{Bool, ◌&&◌, List, ℕ, ◌-◌}
use Rattle.table.specs.Pair.{lock_of, set_lock}
use Rattle.table.specs.Rules.{pair_fine}
use Rattle.protocol.specs.Locks.{weight, holds}
use Rattle.plan.specs.declared.Hold.{Hold}

-- the pair is fine, and the lock is held as it says
unfoldable pub held_by : List ℕ → Hold → Bool
held_by ws h = pair_fine ws h.slot && holds h.write (lock_of ws h.slot h.which)

-- the lock is given up
unfoldable pub freed_by : List ℕ → Hold → List ℕ
freed_by ws h = set_lock ws h.slot h.which (lock_of ws h.slot h.which - weight h.write)
