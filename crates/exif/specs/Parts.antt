-- Parts of a block: place and length are given, and are any numbers.
-- Assumes nothing.
use Rattle.std.specs.Prelude.{Bool, cond, ◌||◌, List, ℕ, ◌-◌, ltb, length, take, drop}
use Rattle.refusal.specs.Said.{Said, refuses}

-- whether a part lies beyond a block of this size
unfoldable pub beyond_of : ℕ → ℕ → ℕ → Bool
beyond_of size place n = ltb size place || ltb (size - place) n

-- to read a part as a reader of whole texts does: 11 comes first
unfoldable pub of_part : {A : Type 0} → (List ℕ → Said A) → List ℕ → ℕ → ℕ → Said A
of_part read block place n = cond (beyond_of (length block) place n) (refuses 11) (read (take n (drop place block)))
