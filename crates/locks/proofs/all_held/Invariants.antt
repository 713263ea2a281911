use mathlib.Core.Path.{◌≡◌}
use mathlib.Core.Bool.{true}
use Rattle.protocol.specs.Locks.{all_held}
use Rattle.locks.proofs.all_held.Given as goal

-- the locks of the first i actions are held
abbrev pub invariant-loop-i : goal.invariant-loop-i
invariant-loop-i l = all_held l.words l.phase l.i ≡ true
