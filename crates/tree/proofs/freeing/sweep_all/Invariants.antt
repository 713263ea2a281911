use Rattle.tree.specs.Answers.{swept}
use mathlib.Core.Path.{◌≡◌}
use Rattle.tree.proofs.freeing.sweep_all.Given as goal

-- the first i slots are swept
abbrev pub invariant-loop-i : goal.invariant-loop-i
invariant-loop-i l = l.words ≡ swept l.initial.words l.i
