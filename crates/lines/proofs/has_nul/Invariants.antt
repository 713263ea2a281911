use mathlib.Core.Path.{◌≡◌}
use mathlib.Core.Bool.{◌||◌}
use lib.ListN.{drop}
use Rattle.lines.specs.Line.{has}
use Rattle.lines.proofs.has_nul.Given as goal

abbrev pub invariant-loop-b : goal.invariant-loop-b
invariant-loop-b l = has 0 l.s ≡ (l.nul || has 0 (drop l.b-index l.s))
