-- The search for a free slot, by its second words: one slot more, four more, and what it comes to.
-- Assumes nothing.
use mathlib.Core.Path.{◌≡◌, sym, ap, ◌∙◌}
use mathlib.Core.Bool.{true, false}
use mathlib.Core.List.{List}
use Prim.Native.Nat.{ℕ, suc, ◌+◌, ◌-◌, ◌/◌, ◌%◌, ◌^◌, ◌≤◌, ◌<◌}
use native.Mathlib.Omega.{arith}
use lib.Bits.{bit_and, and_le_l, and_le_r}
use lib.ListN.{length, get_or}
use borrow.Author.Tests.{eq-eqb, ne_eqb}
use Rattle.layout.specs.Layout.{fld}
use Rattle.table.specs.Pair.{layout, state_f, slots_of, word_of, field_of}
use Rattle.table.proofs.Places.{taken}
use Rattle.table.specs.Free.{lowest_from, lowest_slot, is_free, lowest_free, and_four, Sought}

-- an odd place is that of a slot's second word
second_word : (ws : List ℕ) (at : ℕ) → at % 2 ≡ 1 → word_of ws (at / 2) 1 ≡ get_or ws at 0
unfolding word_of
second_word ws at h = ap (λ (n : ℕ). get_or ws n 0) (omega arith)

pub free_below : (ws : List ℕ) (at : ℕ) → at % 2 ≡ 1 → get_or ws at 0 < taken → is_free ws (at / 2) ≡ true
unfolding is_free field_of
free_below ws at h l = rw (second_word ws at h) (eq-eqb (fld layout state_f (get_or ws at 0)) 0 (omega arith))

pub free_above : (ws : List ℕ) (at : ℕ) → at % 2 ≡ 1 → get_or ws at 0 < 2 ^ 64 → taken ≤ get_or ws at 0 → is_free ws (at / 2) ≡ false
unfolding is_free field_of
free_above ws at h f l = rw (second_word ws at h) (ne_eqb (fld layout state_f (get_or ws at 0)) 0 (λ e. omega arith))

-- a search over slots from i on, below s
pub free_more : (ws : List ℕ) (i s : ℕ) → i < s → is_free ws i ≡ false → lowest_from (is_free ws) i (s - i) ≡ lowest_from (is_free ws) (suc i) (s - suc i)
unfolding lowest_from
free_more ws i s h f = let e : s - i ≡ suc (s - suc i) = omega arith in rw (e, f)

pub free_here : (ws : List ℕ) (i s : ℕ) → i < s → is_free ws i ≡ true → i ≡ lowest_from (is_free ws) i (s - i)
unfolding lowest_from
free_here ws i s h f = let e : s - i ≡ suc (s - suc i) = omega arith in rw (e, f)

pub free_none : (ws : List ℕ) (i s : ℕ) → s ≤ i → 0 ≡ lowest_from (is_free ws) i (s - i)
unfolding lowest_from
free_none ws i s h = let e : s - i ≡ 0 = omega arith in rw e

-- where it begins
pub begins : (ws : List ℕ) → Sought ws 3
unfolding lowest_free lowest_slot
begins ws = record { second = omega arith; rest = omega arith }

-- one slot more, from a place a on to the next, b
pub one_more : (ws : List ℕ) (a b : ℕ) → b ≡ a + 2 → a < length ws → get_or ws a 0 < 2 ^ 64 → taken ≤ get_or ws a 0 → Sought ws a → Sought ws b
one_more ws a b e h f l s =
    let m = free_more ws (a / 2) (slots_of ws) (omega (arith, s.second)) (free_above ws a s.second f l) in
    let d : b / 2 ≡ suc (a / 2) = omega arith in
    record {
      second = omega (arith, s.second);
      rest = rw d (s.rest ∙ m);
    }

pub ends_here : (ws : List ℕ) (a : ℕ) → a < length ws → get_or ws a 0 < taken → Sought ws a → a / 2 ≡ lowest_free ws
ends_here ws a h l s = free_here ws (a / 2) (slots_of ws) (omega (arith, s.second)) (free_below ws a s.second l) ∙ sym s.rest

pub ends_at_none : (ws : List ℕ) (a : ℕ) → length ws ≤ a → Sought ws a → 0 ≡ lowest_free ws
ends_at_none ws a h s = free_none ws (a / 2) (slots_of ws) (omega (arith, s.second)) ∙ sym s.rest

-- four slots more: each of their words is at least the AND of all
pub four_more : (ws : List ℕ) (a b : ℕ) → b ≡ a + 8 → a + 6 < length ws → ((i : ℕ) → get_or ws i 0 < 2 ^ 64) → taken ≤ and_four ws a → Sought ws a → Sought ws b
unfolding and_four
four_more ws a b e h f l s =
    let w = get_or ws a 0 in
    let x = get_or ws (a + 2) 0 in
    let y = get_or ws (a + 4) 0 in
    let z = get_or ws (a + 6) 0 in
    let p = and_le_l (bit_and (bit_and w x) y) z in
    let q = and_le_l (bit_and w x) y in
    one_more ws (a + 6) b (omega arith) h (f (a + 6)) (omega (arith, and_le_r (bit_and (bit_and w x) y) z))
    (one_more ws (a + 4) (a + 6) (omega arith) (omega arith) (f (a + 4)) (omega (arith, p, and_le_r (bit_and w x) y))
    (one_more ws (a + 2) (a + 4) (omega arith) (omega arith) (f (a + 2)) (omega (arith, p, q, and_le_r w x))
    (one_more ws a (a + 2) (omega arith) (omega arith) (f a) (omega (arith, p, q, and_le_l w x)) s)))

pub eight_more : (ws : List ℕ) (a b : ℕ) → b ≡ a + 16 → a + 14 < length ws → ((i : ℕ) → get_or ws i 0 < 2 ^ 64)
    → taken ≤ bit_and (and_four ws a) (and_four ws (a + 8)) → Sought ws a → Sought ws b
eight_more ws a b e h f l s =
    four_more ws (a + 8) b (omega arith) (omega arith) f (omega (arith, and_le_r (and_four ws a) (and_four ws (a + 8))))
    (four_more ws a (a + 8) (omega arith) (omega arith) f (omega (arith, and_le_l (and_four ws a) (and_four ws (a + 8)))) s)
