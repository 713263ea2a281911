-- Which slot a new frame takes: the lowest that is free. The search looks at states alone and judges no other slot.
-- Assumes nothing.
use Rattle.std.specs.Prelude.{◌≡◌, Bool, cond, List, ℕ, zero, suc, ◌+◌, ◌-◌, ◌/◌, ◌%◌, eqb, get_or}
use Rattle.std.specs.Int.Bits.{bit_and}
use Rattle.table.specs.Pair.{free, slots_of, state_of}

-- the lowest of n numbers from i on that passes a test; 0: none
unfoldable pub lowest_from : (ℕ → Bool) → ℕ → ℕ → ℕ
lowest_from f i zero = 0
lowest_from f i (suc n) = let rest = lowest_from f (suc i) n in cond (f i) i rest

-- the lowest slot of a table that does, the root aside
unfoldable pub lowest_slot : List ℕ → (ℕ → Bool) → ℕ
lowest_slot ws f = lowest_from f 1 (slots_of ws - 1)

unfoldable pub is_free : List ℕ → ℕ → Bool
is_free ws i = eqb (state_of ws i) free

unfoldable pub lowest_free : List ℕ → ℕ
lowest_free ws = lowest_slot ws (is_free ws)

-- the second words of four slots ANDed, from the one at `at` on
unfoldable pub and_four : List ℕ → ℕ → ℕ
and_four ws at = bit_and (bit_and (bit_and (get_or ws at 0) (get_or ws (at + 2) 0)) (get_or ws (at + 4) 0)) (get_or ws (at + 6) 0)

-- a search has come to the second word at `at`, and no slot before is free
pub record Sought (ws : List ℕ) (at : ℕ) : Type 0 where
  pub second : at % 2 ≡ 1
  pub rest : lowest_free ws ≡ lowest_from (is_free ws) (at / 2) (slots_of ws - at / 2)
