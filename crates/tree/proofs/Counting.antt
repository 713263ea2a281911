-- The loops over the slots from 1 on, of a table that is not refused 1: the pairs, the live slots, and the keys of a sound
-- table, which may be counted in any order.
-- Assumes nothing.
use mathlib.Core.Path.{◌≡◌, refl, sym, ◌∙◌}
use mathlib.Core.Bool.{Bool, true, false, cond, not, ◌&&◌, and-false}
use mathlib.Core.List.{List}
use mathlib.Core.Logic.{◌⊎◌, ⊎_elim}
use Prim.Native.Nat.{ℕ, suc, ◌+◌, ◌≤◌, ◌<◌}
use native.Mathlib.Omega.{arith}
use native.Mathlib.Decide.{ℕ_discrete}
use lib.Dec.{leb, eqb}
use lib.ListN.{length}
use borrow.Author.Tests.{eq-eqb, ne_eqb, le-leb, not-true, not-false}
use Rattle.table.specs.Pair.{free, as_data, routing, deleted, state_f, slots_of, state_of, zero_pair}
use Rattle.table.specs.Rules.{bits_fine, table_fine}
use Rattle.table.proofs.PairLaws.{field_lt}
use Rattle.tree.specs.Judge.{every, pair_sound, Want, want, wanted, reached_of, live_of, live_slots, sound_of}
use Rattle.tree.specs.Places.{picked, asked}
use Rattle.tree.specs.Answers.{keys_of}
use Rattle.tree.proofs.Recursions.{every_first, every_not, picked_first, live_picked, keys_count}
use Rattle.tree.proofs.Judged.{root_of, is_pair, picked_few, counted_data}

-- A PAIR, by what is read of it
module _ (ws : List ℕ) (i s : ℕ) (b : Bool) (eb : b ≡ bits_fine ws i) where
  pub bits_fail : not b ≡ true → pair_sound ws i ≡ false
  unfolding pair_sound
  bits_fail h = rw (sym eb ∙ not-true b h)

  module _ (es : s ≡ state_of ws i) where
    pub zero_fails : (z : Bool) → z ≡ zero_pair ws i → s ≡ free → not z ≡ true → pair_sound ws i ≡ false
    unfolding pair_sound
    zero_fails z ez f h = rw (eq-eqb (state_of ws i) free (sym es ∙ f), sym ez ∙ not-true z h) (and-false (bits_fine ws i))

    pub pair_passes : not b ≡ false → ((s ≡ free) × (zero_pair ws i ≡ true)) ⊎ (s ≡ free → ⊥) → pair_sound ws i ≡ true
    pair_passes h o = is_pair ws i (sym eb ∙ not-false b h) (λ f. ⊎_elim (λ p. p.1) (λ n. absurd (n (es ∙ f))) o)

    pub live_test : 1 ≤ i → (not (eqb s free) && not (eqb s deleted)) ≡ live_of ws i
    unfolding live_of
    live_test l = rw (es, ne_eqb i 0 (omega arith)) (go (ℕ_discrete (state_of ws i) free) (ℕ_discrete (state_of ws i) deleted))
      where
        go : Dec (state_of ws i ≡ free) → Dec (state_of ws i ≡ deleted)
            → (not (eqb (state_of ws i) free) && not (eqb (state_of ws i) deleted)) ≡ (leb as_data (state_of ws i) && leb (state_of ws i) routing)
        go (yes f) d = rw f
        go (no f) (yes d) = rw d
        go (no f) (no d) =
            let m = field_lt state_f ws i in
            rw (ne_eqb (state_of ws i) free f, ne_eqb (state_of ws i) deleted d, le-leb as_data (state_of ws i) (omega arith), le-leb (state_of ws i) routing (omega arith))

-- ALL PAIRS
module _ (ws : List ℕ) (fine : table_fine ws ≡ true) (n : ℕ) (en : n ≡ slots_of ws) where
  pub some_slots : 1 ≤ n
  some_slots = let l = (root_of ws fine).slots in omega arith

  pub root_pair : every (pair_sound ws) 1 ≡ true
  root_pair =
      let r = root_of ws fine in
      every_first (pair_sound ws) (is_pair ws 0 r.bits (λ f. let d = r.root_data in absurd (omega arith)))

  pub root_live : 1 ≡ 1 + length (picked (live_of ws) 1)
  unfolding live_of
  root_live = omega (arith, picked_first (live_of ws) refl)

  pub sound_not : (i : ℕ) → i < n → pair_sound ws i ≡ false → false ≡ sound_of ws
  unfolding sound_of
  sound_not i l h = let e = every_not (pair_sound ws) (slots_of ws) i (rw en at l) h in rw e

  pub pairs_pass : (i c : ℕ) → i ≤ n → n ≤ i → every (pair_sound ws) i ≡ true → c ≡ 1 + length (picked (live_of ws) i)
      → c ≡ cond (every (pair_sound ws) (slots_of ws)) (suc (length (live_slots ws (slots_of ws)))) 0
  pairs_pass i c a b p q =
      let z : i ≡ slots_of ws = omega arith in
      rw (← z, p, ← (live_picked ws i)) (omega arith)

-- KEYS
pub asked_first : (ws : List ℕ) (w : Want) → 0 ≡ 0 + length (picked (asked ws w) 1)
unfolding asked
asked_first ws w = omega (arith, picked_first (asked ws w) refl)

pub asked_test : (ws : List ℕ) (w : Want) (i : ℕ) (b : Bool) → 1 ≤ i → b ≡ wanted ws w i → b ≡ asked ws w i
unfolding asked
asked_test ws w i b l e = rw (ne_eqb i 0 (omega arith)) e

module _ (ws : List ℕ) (fine : table_fine ws ≡ true) (sound : sound_of ws ≡ true) (low high n : ℕ) (en : n ≡ slots_of ws) where
  keys_picked : length (picked (asked ws (want as_data as_data low high)) n) ≡ length (keys_of ws low high)
  unfolding keys_of
  keys_picked =
      rw en (sym (counted_data ws fine sound low high)) ∙ sym (keys_count ws (reached_of ws (want as_data as_data low high)))

  -- a place for each slot is enough; or all slots are looked at
  pub keys_few : length (keys_of ws low high) ≤ n
  keys_few = omega (arith, keys_picked, picked_few (asked ws (want as_data as_data low high)) n)

  pub keys_counted : (i c : ℕ) → i ≤ n → n ≤ i → c ≡ 0 + length (picked (asked ws (want as_data as_data low high)) i) → c ≡ length (keys_of ws low high)
  keys_counted i c a b q = let z : i ≡ n = omega arith in let p = keys_picked in let r = rw z at q in omega arith
