-- A FRESH TABLE IS SOUND AND ITS SET IS EMPTY.
-- Assumes nothing.
use mathlib.Core.Path.{◌≡◌, sym, ap, ◌∙◌}
use mathlib.Core.Bool.{Bool, true, false, or-true}
use mathlib.Core.List.{List}
use mathlib.Core.Logic.{◌⊎◌, ⊎_elim, ◌≢◌}
use Prim.Native.Nat.{ℕ, ◌≤◌, ◌<◌}
use native.Mathlib.Omega.{arith}
use native.Mathlib.Decide.{ℕ_discrete, dec_lt}
use lib.Dec.{eqb}
use lib.ListN.{length, get_or, replicate, length-replicate, get_or-replicate, get_or-eq_default}
use borrow.Author.Tests.{lt-ltb}
use Rattle.layout.specs.Layout.{fld, fld_set}
use Rattle.moment.proofs.Tests.{tests}
use Rattle.table.specs.Pair.{layout, free, as_data, routing, slots_of, word_at, word_of, key_of, field_of, state_f, link_f, lock_f, busy_f, zeros_f, state_of, link_of, zero_pair, set_key, set_state}
use Rattle.table.specs.Rules.{lock_fine, bits_fine, size_fine, root_fine, table_fine, all_ones, fresh_words}
use Rattle.table.specs.declared.Which.TheVariants.{State, Edge}
use Rattle.table.proofs.PairLaws.{Slot, set_field_fits, word_other, field_same, field_slot, field_field, field_key, key_same, key_field, field_length, key_length}
use Rattle.tree.specs.Reach.{tab_of, top, kid, Reached, InSet}
use Rattle.tree.specs.Sound.{Sound}
use Rattle.tree.proofs.Judged.{link_in}
use Rattle.tree.proofs.Swept.{fld_zero}

-- all words zero
abbrev zeros : ℕ → List ℕ
zeros n = replicate n 0

zeros_length : (n : ℕ) → length (zeros n) ≡ n
zeros_length n = length-replicate n 0

zero_word : (n i k : ℕ) → word_of (zeros n) i k ≡ 0
unfolding word_of
zero_word n i k = go (dec_lt (word_at i k) n)
  where
    go : Dec (word_at i k < n) → get_or (zeros n) (word_at i k) 0 ≡ 0
    go (yes h) = get_or-replicate n (word_at i k) 0 0 h
    go (no h) = get_or-eq_default (zeros n) 0 (rw (zeros_length n) (omega arith))

zero_field : (f n i : ℕ) → field_of f (zeros n) i ≡ 0
unfolding field_of
zero_field f n i = ap (fld layout f) (zero_word n i 1) ∙ fld_zero f

-- the fresh table: the root's key and state, all else zero
module _ (n : ℕ) (size : size_fine n ≡ true) where
  abbrev ks : List ℕ
  ks = set_key (zeros n) 0 all_ones

  abbrev vs : List ℕ
  vs = set_state ks 0 as_data

  wide : (4 ≤ n) × (n ≤ 2048)
  unfolding size_fine
  wide = let p = simp tests at size in (p.0.1, p.1)

  fresh_length : length vs ≡ n
  fresh_length = field_length state_f ks 0 as_data ∙ key_length (zeros n) 0 all_ones ∙ zeros_length n

  root_slot : Slot ks 0
  root_slot = let w = wide in rw (key_length (zeros n) 0 all_ones, zeros_length n) (omega arith)

  fresh_key : key_of vs 0 ≡ all_ones
  fresh_key = field_key state_f ks 0 0 as_data ∙ key_same (zeros n) 0 all_ones (let w = wide in rw (zeros_length n) (omega arith))

  fresh_state : state_of vs 0 ≡ as_data
  fresh_state = field_same state_f ks 0 as_data root_slot (omega arith)

  -- every other field of every slot
  fresh_field : (f i : ℕ) → f ≢ state_f → field_of f vs i ≡ 0
  fresh_field f i z = field_field f state_f ks 0 i as_data z ∙ key_field f (zeros n) 0 i all_ones ∙ zero_field f n i

  -- every other slot
  fresh_slot : (f i : ℕ) → i ≢ 0 → field_of f vs i ≡ 0
  fresh_slot f i z = field_slot f state_f ks 0 i as_data z ∙ key_field f (zeros n) 0 i all_ones ∙ zero_field f n i

  fresh_link : (i : ℕ) (d : Bool) → link_of vs i d ≡ 0
  fresh_link i true = fresh_field (link_f true) i (omega arith)
  fresh_link i false = fresh_field (link_f false) i (omega arith)

  only_root : {y : ℕ} → Reached (tab_of vs) y → y ≡ 0
  only_root (top e) = e
  only_root (kid {p = p} d r e m) = absurd (m (sym e ∙ fresh_link p d))

  fresh_slots : 1 < slots_of vs
  fresh_slots = let w = wide in let e = fresh_length in omega arith

  fresh_bits : (i : ℕ) → bits_fine vs i ≡ true
  unfolding bits_fine lock_fine
  fresh_bits i =
      rw (
        fresh_field (link_f true) i (omega arith),
        fresh_field (link_f false) i (omega arith),
        fresh_field (lock_f State) i (omega arith),
        fresh_field (lock_f (Edge true)) i (omega arith),
        fresh_field (lock_f (Edge false)) i (omega arith),
        fresh_field busy_f i (omega arith),
        fresh_field zeros_f i (omega arith),
        lt-ltb 0 (slots_of vs) (omega (arith, fresh_slots)),
        or-true (eqb i 0),
      )

  fresh_word : (i k : ℕ) → k < 2 → i ≢ 0 → word_of vs i k ≡ 0
  fresh_word i k b z =
      rw (set_field_fits state_f ks 0 as_data (omega arith))
      (word_other ks 0 i 1 k (fld_set layout state_f (word_of ks 0 1) as_data) (omega arith) ∙ word_other (zeros n) 0 i 0 k all_ones (omega arith) ∙ zero_word n i k)

  fresh_zero : (i : ℕ) → i ≢ 0 → zero_pair vs i ≡ true
  unfolding zero_pair
  fresh_zero i z = rw (fresh_word i 0 (omega arith) z, fresh_word i 1 (omega arith) z)

  fresh_fine : table_fine vs ≡ true
  unfolding table_fine root_fine
  fresh_fine = rw (fresh_length, size, fresh_key, fresh_state, fresh_field (link_f false) 0 (omega arith), fresh_bits 0, fresh_field busy_f 0 (omega arith))

  -- only the root is reached
  at_root_lem : {y : ℕ} (a : ℕ) → Reached (tab_of vs) y → state_of vs y ≡ a → as_data ≡ a
  at_root_lem {y} a r e = sym fresh_state ∙ ap (state_of vs) (sym (only_root r)) ∙ e

  sound : Sound vs
  sound =
      record {
        bits = λ i l. fresh_bits i;
        zeros = λ i l e. fresh_zero i (λ z. let q = fresh_state in let e' : state_of vs 0 ≡ free = ap (state_of vs) (sym z) ∙ e in omega arith);
        inside = λ i d l. link_in vs i d (fresh_bits i);
        once = λ p q y d e r s f g m. absurd (m (sym f ∙ fresh_link p d));
        taken = λ y r e. let q = at_root_lem free r e in omega arith;
        left = λ x y r b. absurd (b.0 (fresh_link x true));
        right = λ x y r b. absurd (b.0 (fresh_link x false));
        two = λ x d r e. let q = at_root_lem routing r e in absurd (omega arith);
        alive = λ i l s. here i s (ℕ_discrete i 0);
        legal = λ y r m. absurd (m (only_root r));
      }
    where
      here : (i : ℕ) → (state_of vs i ≡ as_data) ⊎ (state_of vs i ≡ routing) → Dec (i ≡ 0) → Reached (tab_of vs) i
      here i s (yes z) = top z
      here i s (no z) = let q = fresh_slot state_f i z in absurd (⊎_elim (λ e. omega arith) (λ e. omega arith) s)

  empty : (k : ℕ) → InSet vs k → ⊥
  empty k (y, m, t, e, r) = m (only_root r)

-- FRESH ON ANY WORDS OF A PROPER LENGTH
pub record Starts (vs : List ℕ) : Type 0 where
  pub fine : table_fine vs ≡ true
  pub sound : Sound vs
  pub empty : (k : ℕ) → InSet vs k → ⊥

pub fresh_starts : (ws : List ℕ) → size_fine (length ws) ≡ true → Starts (fresh_words ws)
unfolding fresh_words
fresh_starts ws e =
    rw e (record { fine = fresh_fine (length ws) e; sound = sound (length ws) e; empty = empty (length ws) e })
