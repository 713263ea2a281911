use Rattle.tree.specs.Judge.{every}
use Rattle.tree.specs.Places.{kept}
use mathlib.Core.Bool.{true}
use mathlib.Core.Path.{◌≡◌}
use Rattle.tree.proofs.freeing.may_sweep.Given as goal

-- the first i slots may stay as a sweep leaves them
abbrev pub invariant-loop-i : goal.invariant-loop-i
invariant-loop-i l = every (kept l.words) l.i ≡ true
