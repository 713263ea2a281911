use mathlib.Core.Path.{◌≡◌}
use Rattle.protocol.specs.Locks.{released}
use Rattle.locks.proofs.release_all.Given as goal

-- the locks of the first i actions are given up
abbrev pub invariant-loop-i : goal.invariant-loop-i
invariant-loop-i l = l.words ≡ released l.initial.words l.phase l.i
