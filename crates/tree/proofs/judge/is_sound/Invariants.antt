use Rattle.tree.specs.Judge.{every, pair_sound, live_of}
use Rattle.tree.specs.Places.{picked}
use lib.ListN.{length}
use mathlib.Core.Bool.{true}
use mathlib.Core.List.{List}
use mathlib.Core.Path.{◌≡◌}
use Prim.Native.Nat.{ℕ, ◌+◌, ◌≤◌}
use Rattle.tree.proofs.judge.is_sound.Given as goal

-- the pairs of the first i slots are sound, and there is one more place than there are data and routing slots among them
pub record Judged (words : List ℕ) (room i : ℕ) : Type 0 where
  pub few : room ≤ i
  pub sound : every (pair_sound words) i ≡ true
  pub counted : room ≡ 1 + length (picked (live_of words) i)

abbrev pub invariant-loop-i : goal.invariant-loop-i
invariant-loop-i l = Judged l.words l.room l.i
