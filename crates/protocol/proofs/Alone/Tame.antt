-- The bit rules of a table in use, as facts of each field, so that a store keeps them field by field; rule 1 and the rules of
-- a pair follow. Assumes nothing.
use mathlib.Core.Path.{◌≡◌, refl, sym, ap, ◌∙◌}
use mathlib.Core.Bool.{Bool, true, false, ◌&&◌, ◌||◌}
use mathlib.Core.List.{List}
use mathlib.Core.Logic.{◌≢◌}
use Prim.Native.Nat.{ℕ, ◌≤◌, ◌<◌}
use native.Mathlib.Omega.{arith}
use native.Mathlib.Decide.{ℕ_discrete}
use lib.Dec.{eqb}
use lib.ListN.{length}
use borrow.Author.Tests.{eq-eqb, ne_eqb, lt-ltb, le-leb}
use Rattle.layout.specs.Layout.{fld_set}
use Rattle.moment.proofs.Tests.{tests}
use Rattle.table.specs.Pair.{layout, free, as_data, state_f, link_f, lock_f, busy_f, zeros_f, slots_of, word_of, key_of, field_of, set_field, state_of, link_of, lock_of, busy_of, zero_pair}
use Rattle.table.specs.Rules.{lock_fine, bits_fine, pair_fine, all_ones, root_fine, size_fine, table_fine}
use Rattle.table.specs.declared.Which.{Which}
use Rattle.table.specs.declared.Which.TheVariants.{State, Edge}
use Rattle.table.proofs.PairLaws.{stored, word_other, field_slot, field_field, field_length}
use Rattle.table.proofs.ChangeLaws.{Only, field_in}

-- free slots are zero
abbrev pub Zeros : List ℕ → Type 0
Zeros us = (i : ℕ) → i < slots_of us → state_of us i ≡ free → zero_pair us i ≡ true

pub record Tame (us : List ℕ) : Type 0 where
  pub size : size_fine (length us) ≡ true
  pub ones : key_of us 0 ≡ all_ones
  pub root_data : state_of us 0 ≡ as_data
  pub right : link_of us 0 false ≡ 0
  pub inside : (i : ℕ) (d : Bool) → i < slots_of us → link_of us i d < slots_of us
  pub light : (i : ℕ) (l : Which) → i < slots_of us → lock_fine (lock_of us i l) ≡ true
  pub seats : busy_of us ≤ 16
  pub lone : (i : ℕ) → i < slots_of us → i ≢ 0 → field_of busy_f us i ≡ 0
  pub bare : (i : ℕ) → i < slots_of us → field_of zeros_f us i ≡ 0
  pub zeros : Zeros us

-- the sizes
pub even_size : (n : ℕ) → size_fine n ≡ true → (4 ≤ n) × (n ≤ 2048)
unfolding size_fine
even_size n e = let h = simp tests at e in (h.0.1, h.1)

-- RULE 1 AND THE RULES OF A PAIR FOLLOW
module _ {us : List ℕ} (t : Tame us) where
  pub tame_bits : (i : ℕ) → i < slots_of us → bits_fine us i ≡ true
  unfolding bits_fine
  tame_bits i l =
      rw (
        lt-ltb (link_of us i true) (slots_of us) (t.inside i true l),
        lt-ltb (link_of us i false) (slots_of us) (t.inside i false l),
        t.light i State l,
        t.light i (Edge true) l,
        t.light i (Edge false) l,
        t.bare i l,
      )
      (go (ℕ_discrete i 0))
    where
      go : Dec (i ≡ 0) → (true && true && true && true && true && (eqb i 0 || eqb (field_of busy_f us i) 0) && true) ≡ true
      go (yes e) = rw (eq-eqb i 0 e)
      go (no e) = rw (ne_eqb i 0 e, t.lone i l e)

  pub tame_slots : 1 < slots_of us
  tame_slots = let h = even_size (length us) t.size in omega (arith, h.0)

  pub tame_table : table_fine us ≡ true
  unfolding table_fine root_fine
  tame_table =
      rw (t.size, t.ones, t.root_data, t.right, tame_bits 0 (omega (arith, tame_slots)), le-leb (busy_of us) 16 t.seats)

  -- a slot that is not free is in the table, and its pair is fine
  pub some_in : (f i : ℕ) → field_of f us i ≢ 0 → i < slots_of us
  some_in f i n = let h = field_in f us i n in omega arith

  pub tame_pair : (i : ℕ) → state_of us i ≢ free → pair_fine us i ≡ true
  unfolding pair_fine
  tame_pair i n = rw (ne_eqb (state_of us i) free n, tame_bits i (some_in state_f i n))

-- A STORE TO ONE FIELD: each field is the one stored, or as it was

pub by_only : {f s v : ℕ} {us vs : List ℕ} → Only f s v us vs → (P : ℕ → Type 0) (g j : ℕ) → (g ≡ f → j ≡ s → P v) → P (field_of g us j) → P (field_of g vs j)
by_only {f} {s} {v} {us} {vs} o P g j hit miss = go (ℕ_discrete g f) (ℕ_discrete j s)
  where
    go : Dec (g ≡ f) → Dec (j ≡ s) → P (field_of g vs j)
    go (yes e) (yes z) = rw (e, z, o.there) (hit e z)
    go (yes e) (no z) = rw (o.slots g j z) miss
    go (no e) z = rw (o.fields g j e) miss

-- so the rules are kept where what is stored keeps them
pub record Keeps (f s v : ℕ) (us : List ℕ) : Type 0 where
  pub root_state : f ≡ state_f → s ≢ 0
  pub root_right : f ≡ link_f false → s ≢ 0
  pub link : (d : Bool) → f ≡ link_f d → v < slots_of us
  pub lock : (l : Which) → f ≡ lock_f l → lock_fine v ≡ true
  pub seat : f ≡ busy_f → (s ≡ 0) × (v ≤ 16)
  pub none : f ≢ zeros_f

pub tame_only : {f s v : ℕ} {us vs : List ℕ} → Tame us → Only f s v us vs → Keeps f s v us → Zeros vs → Tame vs
tame_only {f} {s} {v} {us} {vs} t o k z =
    record {
      size = rw o.size t.size;
      ones = o.keys 0 ∙ t.ones;
      root_data = by_only o (λ x. x ≡ as_data) state_f 0 (λ e i. absurd (k.root_state (sym e) (sym i))) t.root_data;
      right = by_only o (λ x. x ≡ 0) (link_f false) 0 (λ e i. absurd (k.root_right (sym e) (sym i))) t.right;
      inside = λ i d l. rw o.size (by_only o (λ x. x < slots_of us) (link_f d) i (λ e j. k.link d (sym e)) (t.inside i d (rw o.size at l)));
      light = λ i l h. by_only o (λ x. lock_fine x ≡ true) (lock_f l) i (λ e j. k.lock l (sym e)) (t.light i l (rw o.size at h));
      seats = by_only o (λ x. x ≤ 16) busy_f 0 (λ e j. (k.seat (sym e)).1) t.seats;
      lone = λ i l n. by_only o (λ x. x ≡ 0) busy_f i (λ e j. absurd (n (j ∙ (k.seat (sym e)).0))) (t.lone i (rw o.size at l) n);
      bare = λ i l. by_only o (λ x. x ≡ 0) zeros_f i (λ e j. absurd (k.none (sym e))) (t.bare i (rw o.size at l));
      zeros = z;
    }

-- FREE SLOTS STAY ZERO: a store to a slot that is not free leaves the words of all others

pub word_slot : (f : ℕ) (us : List ℕ) (s j k v : ℕ) → k < 2 → j ≢ s → word_of (set_field f us s v) j k ≡ word_of us j k
word_slot f us s j k v h n =
    stored (λ (x : List ℕ). word_of x j k ≡ word_of us j k) f us s v
    (λ i. word_other us s j 1 k (fld_set layout f (word_of us s 1) v) (omega arith)) refl

pub zero_same : (us vs : List ℕ) (i : ℕ) → ((k : ℕ) → k < 2 → word_of vs i k ≡ word_of us i k) → zero_pair us i ≡ true → zero_pair vs i ≡ true
unfolding zero_pair
zero_same us vs i e h = rw (e 0 (omega arith), e 1 (omega arith)) h

pub zeros_field : (f s v : ℕ) (us : List ℕ) → Zeros us → state_of (set_field f us s v) s ≢ free → Zeros (set_field f us s v)
zeros_field f s v us z n i l e =
    let d : i ≢ s = λ j. n (ap (state_of (set_field f us s v)) (sym j) ∙ e) in
    zero_same us (set_field f us s v) i (λ k h. word_slot f us s i k v h d) (z i (rw (field_length f us s v) at l) (sym (field_slot state_f f us s i v d) ∙ e))

-- another field than the state: the slot is as free as it was
pub zeros_other : (f s v : ℕ) (us : List ℕ) → Zeros us → state_f ≢ f → state_of us s ≢ free → Zeros (set_field f us s v)
zeros_other f s v us z d n = zeros_field f s v us z (λ e. n (sym (field_field state_f f us s s v d) ∙ e))
