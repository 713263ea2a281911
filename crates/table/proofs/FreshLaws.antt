-- The fresh table: its words slot by slot, and that rule 1 lets it through.
-- Assumes nothing.
use mathlib.Core.Path.{◌≡◌, refl, ap, ◌∙◌}
use mathlib.Core.Bool.{true, false}
use mathlib.Core.List.{List}
use mathlib.Core.Logic.{◌≢◌}
use Prim.Native.Nat.{ℕ, ◌/◌, ◌≤◌, ◌<◌}
use native.Mathlib.Omega.{arith}
use native.Mathlib.Nat.{zero-div, zero-mod}
use native.Mathlib.Decide.{dec_lt}
use lib.Dec.{ltb}
use lib.ListN.{length, get_or, replicate, length-replicate, get_or-replicate, get_or-eq_default}
use borrow.Author.Tests.{lt-ltb}
use Rattle.moment.proofs.Tests.{tests}
use Rattle.table.specs.Pair.{as_data, state_f, link_f, lock_f, busy_f, zeros_f, word_at, word_of, key_of, set_key, field_of, state_of, set_state}
use Rattle.table.specs.Rules.{lock_fine, bits_fine, root_fine, size_fine, fewest_words, table_fine, all_ones, fresh_words}
use Rattle.table.specs.declared.Which.TheVariants.{State, Edge}
use Rattle.table.proofs.PairLaws.{field_same, field_slot, field_field, field_key, field_length, key_same, key_slot, key_field, key_length}

-- all words zero
abbrev zeros : ℕ → List ℕ
zeros n = replicate n 0

zeros_length : (n : ℕ) → length (zeros n) ≡ n
zeros_length n = length-replicate {A = ℕ} n 0

zero_word : (n i k : ℕ) → word_of (zeros n) i k ≡ 0
unfolding word_of
zero_word n i k = go (dec_lt (word_at i k) n)
  where
    go : Dec (word_at i k < n) → get_or (zeros n) (word_at i k) 0 ≡ 0
    go (yes h) = get_or-replicate n (word_at i k) 0 0 h
    go (no h) = get_or-eq_default (zeros n) 0 (omega (arith, zeros_length n))

zero_field : (n f i : ℕ) → field_of f (zeros n) i ≡ 0
unfolding field_of
zero_field n f i = rw (zero_word n i 1, zero-div, zero-mod) refl

module _ (ws : List ℕ) (fine : size_fine (length ws) ≡ true) where
  -- what it is made of
  made : fresh_words ws ≡ set_state (set_key (zeros (length ws)) 0 all_ones) 0 as_data
  unfolding fresh_words
  made = rw fine

  size_least : fewest_words ≤ length ws
  unfolding size_fine
  size_least = let h = simp tests at fine in h.0.1

  pub fresh_length : length (fresh_words ws) ≡ length ws
  fresh_length =
      ap length made ∙ field_length state_f (set_key (zeros (length ws)) 0 all_ones) 0 as_data
      ∙ key_length (zeros (length ws)) 0 all_ones ∙ zeros_length (length ws)

  -- the root: an all-ones key, state data, and no other field
  pub fresh_root_key : key_of (fresh_words ws) 0 ≡ all_ones
  fresh_root_key =
      ap (λ (x : List ℕ). key_of x 0) made ∙ field_key state_f (set_key (zeros (length ws)) 0 all_ones) 0 0 as_data
      ∙ key_same (zeros (length ws)) 0 all_ones (omega (arith, zeros_length (length ws), size_least))

  pub fresh_root_state : state_of (fresh_words ws) 0 ≡ as_data
  fresh_root_state =
      ap (λ (x : List ℕ). state_of x 0) made
      ∙ field_same state_f (set_key (zeros (length ws)) 0 all_ones) 0 as_data
      (omega (arith, key_length (zeros (length ws)) 0 all_ones, zeros_length (length ws), size_least)) (omega arith)

  pub fresh_root_bare : (f : ℕ) → f ≢ state_f → field_of f (fresh_words ws) 0 ≡ 0
  fresh_root_bare f d =
      ap (λ (x : List ℕ). field_of f x 0) made ∙ field_field f state_f (set_key (zeros (length ws)) 0 all_ones) 0 0 as_data d
      ∙ key_field f (zeros (length ws)) 0 0 all_ones ∙ zero_field (length ws) f 0

  -- every other slot is zero
  pub fresh_key : (i : ℕ) → i ≢ 0 → key_of (fresh_words ws) i ≡ 0
  fresh_key i d =
      ap (λ (x : List ℕ). key_of x i) made ∙ field_key state_f (set_key (zeros (length ws)) 0 all_ones) 0 i as_data
      ∙ key_slot (zeros (length ws)) 0 i all_ones d ∙ zero_word (length ws) i 0

  pub fresh_field : (f i : ℕ) → i ≢ 0 → field_of f (fresh_words ws) i ≡ 0
  fresh_field f i d =
      ap (λ (x : List ℕ). field_of f x i) made ∙ field_slot f state_f (set_key (zeros (length ws)) 0 all_ones) 0 i as_data d
      ∙ key_field f (zeros (length ws)) 0 i all_ones ∙ zero_field (length ws) f i

  -- rule 1 lets it through
  pub fresh_fine : table_fine (fresh_words ws) ≡ true
  unfolding table_fine root_fine bits_fine lock_fine
  fresh_fine =
      let slots : ltb 0 (length ws / 2) ≡ true = lt-ltb 0 (length ws / 2) (omega (arith, size_least)) in
      simp (
        fresh_length,
        fine,
        fresh_root_key,
        fresh_root_state,
        fresh_root_bare (link_f true) (omega arith),
        fresh_root_bare (link_f false) (omega arith),
        fresh_root_bare (lock_f State) (omega arith),
        fresh_root_bare (lock_f (Edge true)) (omega arith),
        fresh_root_bare (lock_f (Edge false)) (omega arith),
        fresh_root_bare busy_f (omega arith),
        fresh_root_bare zeros_f (omega arith),
        slots,
      )
