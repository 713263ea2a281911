use mathlib.Core.Path.{◌≡◌}
use lib.ListN.{length}
use Rattle.runs.proofs.Whole.{Made}
use Rattle.runs.proofs.by_value.steps.Given as goal

abbrev pub invariant-loop-made : goal.invariant-loop-made
invariant-loop-made l =
    Made l.most l.initial.words l.initial.worker l.made l.words l.worker × (length l.words ≡ length l.initial.words)
