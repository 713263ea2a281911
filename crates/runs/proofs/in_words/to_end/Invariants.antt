use mathlib.Core.Path.{◌≡◌}
use lib.ListN.{length}
use Rattle.runs.proofs.InWords.{Lasts}
use Rattle.runs.proofs.in_words.to_end.Given as goal

abbrev pub invariant-loop-made : goal.invariant-loop-made
invariant-loop-made l =
    Lasts l.most l.initial.words l.initial.lent l.made l.words l.lent × (length l.words ≡ length l.initial.words) × (length l.lent ≡ length l.initial.lent)
