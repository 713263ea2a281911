-- What a sweep does to each word: those of deleted slots become 0, all else stays.
-- Assumes nothing.
use mathlib.Core.Path.{◌≡◌, refl, ap, ◌∙◌}
use mathlib.Core.List.{List}
use mathlib.Core.Logic.{◌≢◌}
use Prim.Native.Nat.{ℕ, zero, suc, ◌^◌, ◌≤◌, ◌<◌}
use native.Mathlib.Omega.{arith}
use native.Mathlib.Nat.{zero-div, zero-mod}
use native.Mathlib.Decide.{ℕ_discrete}
use lib.Dec.{eqb}
use lib.ListN.{length}
use borrow.Author.Tests.{eqb-true, eqb-false}
use Rattle.layout.specs.Layout.{fld, pos, wid}
use Rattle.moment.proofs.Tests.{by_cases}
use Rattle.table.specs.Pair.{layout, deleted, slots_of, word_of, set_word, state_f, field_of, state_of}
use Rattle.table.proofs.PairLaws.{word_same, word_other, word_length}
use Rattle.tree.specs.Answers.{freed, swept_slot, swept}

-- ONE SLOT FREED

freed_length : (ws : List ℕ) (i : ℕ) → length (freed ws i) ≡ length ws
unfolding freed
freed_length ws i = word_length (set_word ws i 0 0) i 1 0 ∙ word_length ws i 0 0

freed_other : (ws : List ℕ) (i j k : ℕ) → k < 2 → j ≢ i → word_of (freed ws i) j k ≡ word_of ws j k
unfolding freed
freed_other ws i j k h n = word_other (set_word ws i 0 0) i j 1 k 0 (omega arith) ∙ word_other ws i j 0 k 0 (omega arith)

freed_zero : (ws : List ℕ) (i k : ℕ) → k < 2 → i < slots_of ws → word_of (freed ws i) i k ≡ 0
unfolding freed
freed_zero ws i k h l = go (ℕ_discrete k 1)
  where
    go : Dec (k ≡ 1) → word_of (set_word (set_word ws i 0 0) i 1 0) i k ≡ 0
    go (yes e) = rw e (word_same (set_word ws i 0 0) i 1 0 (rw (word_length ws i 0 0) (omega arith)))
    go (no e) =
        let z : k ≡ 0 = omega arith in
        rw z (word_other (set_word ws i 0 0) i i 1 0 0 (omega arith) ∙ word_same ws i 0 0 (omega arith))

-- THE FIRST n SLOTS SWEPT

field_word : (f : ℕ) (ws vs : List ℕ) (i : ℕ) → word_of vs i 1 ≡ word_of ws i 1 → field_of f vs i ≡ field_of f ws i
unfolding field_of
field_word f ws vs i e = ap (fld layout f) e

record SweptTo (ws : List ℕ) (n : ℕ) (vs : List ℕ) : Type 0 where
  size : length vs ≡ length ws
  later : (i k : ℕ) → k < 2 → n ≤ i → word_of vs i k ≡ word_of ws i k
  kept : (i k : ℕ) → k < 2 → state_of ws i ≢ deleted → word_of vs i k ≡ word_of ws i k
  zeroed : (i k : ℕ) → k < 2 → i < n → state_of ws i ≡ deleted → word_of vs i k ≡ 0

one_more : (ws vs : List ℕ) (n : ℕ) → n < slots_of ws → SweptTo ws n vs → SweptTo ws (suc n) (swept_slot vs n)
unfolding swept_slot
one_more ws vs n l h =
    let s : state_of vs n ≡ state_of ws n = field_word state_f ws vs n (h.later n 1 (omega arith) (omega arith)) in
    rw s (by_cases (SweptTo ws (suc n)) (eqb (state_of ws n) deleted) (λ e. gone (eqb-true (state_of ws n) deleted e)) (λ e. stays (eqb-false (state_of ws n) deleted e)))
  where
    gone : state_of ws n ≡ deleted → SweptTo ws (suc n) (freed vs n)
    gone e =
        record {
          size = freed_length vs n ∙ h.size;
          later = λ i k b m. freed_other vs n i k b (omega arith) ∙ h.later i k b (omega arith);
          kept = λ i k b m. freed_other vs n i k b (λ q. m (rw q e)) ∙ h.kept i k b m;
          zeroed = λ i k b m d. at i k b m d (ℕ_discrete i n);
        }
      where
        at : (i k : ℕ) → k < 2 → i < suc n → state_of ws i ≡ deleted → Dec (i ≡ n) → word_of (freed vs n) i k ≡ 0
        at i k b m d (yes q) = rw q (freed_zero vs n k b (rw h.size l))
        at i k b m d (no q) = freed_other vs n i k b q ∙ h.zeroed i k b (omega arith) d

    stays : state_of ws n ≢ deleted → SweptTo ws (suc n) vs
    stays e =
        record {
          size = h.size;
          later = λ i k b m. h.later i k b (omega arith);
          kept = h.kept;
          zeroed = λ i k b m d. h.zeroed i k b (below i m (λ q. e (rw q at d))) d;
        }
      where
        below : (i : ℕ) → i < suc n → i ≢ n → i < n
        below i m q = omega arith

swept_to : (ws : List ℕ) (n : ℕ) → n ≤ slots_of ws → SweptTo ws n (swept ws n)
unfolding swept
swept_to ws zero l = record { size = refl; later = λ i k b m. refl; kept = λ i k b m. refl; zeroed = λ i k b m d. absurd (omega arith) }
swept_to ws (suc n) l = one_more ws (swept ws n) n (omega arith) (swept_to ws n (omega arith))

-- THE WHOLE TABLE

pub fld_zero : (f : ℕ) → fld layout f 0 ≡ 0
fld_zero f = rw (zero-div (2 ^ pos layout f)) (zero-mod (2 ^ wid layout f))

pub record Sweeps (ws vs : List ℕ) : Type 0 where
  pub size : length vs ≡ length ws
  pub kept : (i k : ℕ) → k < 2 → state_of ws i ≢ deleted → word_of vs i k ≡ word_of ws i k
  pub zeroed : (i k : ℕ) → k < 2 → i < slots_of ws → state_of ws i ≡ deleted → word_of vs i k ≡ 0
  -- and so its fields
  pub field : (f i : ℕ) → state_of ws i ≢ deleted → field_of f vs i ≡ field_of f ws i
  pub zero_field : (f i : ℕ) → i < slots_of ws → state_of ws i ≡ deleted → field_of f vs i ≡ 0

-- EVERY DELETED SLOT BECOMES FREE, ALL ELSE STAYS
pub sweeps : (ws : List ℕ) → Sweeps ws (swept ws (slots_of ws))
unfolding field_of
sweeps ws =
    let h = swept_to ws (slots_of ws) (omega arith) in
    record {
      size = h.size;
      kept = h.kept;
      zeroed = h.zeroed;
      field = λ f i n. ap (fld layout f) (h.kept i 1 (omega arith) n);
      zero_field = λ f i l d. ap (fld layout f) (h.zeroed i 1 (omega arith) l d) ∙ fld_zero f;
    }
