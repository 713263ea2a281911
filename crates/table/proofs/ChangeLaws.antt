-- What a store changes and what it leaves, as facts of every slot and field; which slots are of the table; the fresh table.
-- Assumes nothing.
use mathlib.Core.Path.{◌≡◌, refl, ap}
use mathlib.Core.Bool.{Bool, true, false, cond, false≢true}
use mathlib.Core.List.{List}
use mathlib.Core.Logic.{◌≢◌}
use Prim.Native.Nat.{ℕ, ◌≤◌, ◌<◌}
use native.Mathlib.Omega.{arith}
use native.Mathlib.Nat.{zero-div, zero-mod}
use native.Mathlib.Decide.{dec_lt}
use lib.ListN.{length, replicate}
use borrow.Author.Tests.{not-true, eqb-false}
use Rattle.refusal.specs.Said.{Said, gives, refuses}
use Rattle.moment.proofs.Tests.{tests}
use Rattle.table.specs.Pair.{as_data, state_f, link_f, lock_f, busy_f, word_at, key_of, set_key, field_of, set_field, set_state}
use Rattle.table.specs.Rules.{pair_fine, all_ones, fewest_words, most_words, size_fine, table_fine, fresh_says, fresh_words}
use Rattle.table.specs.declared.Which.{Which}
use Rattle.table.specs.declared.Which.TheVariants.{State, Edge}
use Rattle.table.proofs.PairLaws.{Slot, Holds, word_beyond, field_same, field_slot, field_field, field_key, field_length, field_lt}

-- vs is ws but for field f of slot i, which is v
pub record Only (f i v : ℕ) (ws vs : List ℕ) : Type 0 where
  pub size : length vs ≡ length ws
  pub keys : (j : ℕ) → key_of vs j ≡ key_of ws j
  pub there : field_of f vs i ≡ v
  pub slots : (g j : ℕ) → j ≢ i → field_of g vs j ≡ field_of g ws j
  pub fields : (g j : ℕ) → g ≢ f → field_of g vs j ≡ field_of g ws j

pub only : (f : ℕ) (ws : List ℕ) (i v : ℕ) → Slot ws i → Holds f v → Only f i v ws (set_field f ws i v)
only f ws i v s h =
    record {
      size = field_length f ws i v;
      keys = λ j. field_key f ws i j v;
      there = field_same f ws i v s h;
      slots = λ g j d. field_slot g f ws i j v d;
      fields = λ g j d. field_field g f ws i j v d;
    }

-- a field that is not 0 is one of the table
pub field_in : (f : ℕ) (ws : List ℕ) (i : ℕ) → field_of f ws i ≢ 0 → Slot ws i
unfolding field_of
field_in f ws i d = go (dec_lt (word_at i 1) (length ws))
  where
    go : Dec (Slot ws i) → Slot ws i
    go (yes s) = s
    go (no s) = absurd (d (rw (← (word_beyond ws i 1 (omega arith)), zero-div, zero-mod) refl))

-- so a pair that is fine is: it is not free
pub fine_state : (ws : List ℕ) (i : ℕ) → pair_fine ws i ≡ true → field_of state_f ws i ≢ 0
unfolding pair_fine
fine_state ws i e = let h = simp tests at e in eqb-false _ _ (not-true _ h.0)

pub fine_in : (ws : List ℕ) (i : ℕ) → pair_fine ws i ≡ true → Slot ws i
fine_in ws i e = field_in state_f ws i (fine_state ws i e)

-- beyond the table a field is 0
pub field_beyond : (f : ℕ) (ws : List ℕ) (i : ℕ) → length ws ≤ word_at i 1 → field_of f ws i ≡ 0
unfolding field_of
field_beyond f ws i h = rw (← (word_beyond ws i 1 h), zero-div, zero-mod) refl

-- a field that is lessened is as it was stored, in the table or beyond it
pub field_less : (f : ℕ) (ws : List ℕ) (i v : ℕ) → v ≤ field_of f ws i → field_of f (set_field f ws i v) i ≡ v
field_less f ws i v h = go (dec_lt (word_at i 1) (length ws))
  where
    go : Dec (Slot ws i) → field_of f (set_field f ws i v) i ≡ v
    go (yes s) = field_same f ws i v s (omega (arith, field_lt f ws i))
    go (no s) =
        let z = field_beyond f ws i (omega arith) in
        let e = field_length f ws i v in
        omega (arith, field_beyond f (set_field f ws i v) i (omega arith))

-- the sizes that rule 1 lets through
pub table_size : (ws : List ℕ) → table_fine ws ≡ true → (fewest_words ≤ length ws) × (length ws ≤ most_words)
unfolding table_fine size_fine
table_size ws e = let h = simp tests at e in (h.0.0.1, h.0.1)

-- a lock's field is none of the others
pub side_apart : (f : ℕ) → 2 < f → (side : Bool) → f ≢ link_f side
side_apart f h true = omega arith
side_apart f h false = omega arith

pub lock_apart : (which : Which) → (lock_f which ≢ state_f) × ((side : Bool) → lock_f which ≢ link_f side) × (lock_f which ≢ busy_f)
lock_apart State = (omega arith, side_apart 3 (omega arith), omega arith)
lock_apart (Edge true) = (omega arith, side_apart 4 (omega arith), omega arith)
lock_apart (Edge false) = (omega arith, side_apart 5 (omega arith), omega arith)

abbrev is_refusal : Said (Unit {0}) → Bool
is_refusal (gives u) = false
is_refusal (refuses n) = true

-- fresh, refused: nothing changes; done: the size is as it was
pub fresh_refused : (ws : List ℕ) (n : ℕ) → fresh_says ws ≡ refuses n → fresh_words ws ≡ ws
unfolding fresh_says fresh_words
fresh_refused ws n = go (size_fine (length ws)) refl
  where
    go : (t : Bool) → size_fine (length ws) ≡ t → ◌≡◌ {A = Said (Unit {0})} (cond t (gives tt) (refuses 1)) (refuses n)
        → cond t (set_state (set_key (replicate (length ws) 0) 0 all_ones) 0 as_data) ws ≡ ws
    go true t e = absurd (false≢true (ap is_refusal e))
    go false t e = refl
