-- WHEN, AND ONLY THEN: why a call between steps is refused, by its number. Each table and each argument has one answer, so
-- that a refusal is met exactly for the reason that stands here beside its number.
-- Assumes nothing.
use mathlib.Core.Path.{◌≡◌, refl, sym, ◌∙◌}
use mathlib.Core.Bool.{Bool, true, false, cond, true≢false}
use mathlib.Core.List.Memᴰ
use mathlib.Core.List.{List, [], ◌∷◌}
use mathlib.Core.Logic.{⊎_elim, ◌≢◌}
use Prim.Native.Nat.{ℕ, ◌≤◌, ◌<◌}
use native.Mathlib.Omega.{arith}
use lib.Dec.{ltb, eqb}
use lib.ListN.{length}
use borrow.Author.Tests.{ltb-true, eqb-true, eqb-false}
use Rattle.refusal.specs.Said.{Said, gives, refuses}
use Rattle.table.specs.Pair.{slots_of, lock_of, busy_of}
use Rattle.table.specs.Rules.{all_ones, table_fine}
use Rattle.table.specs.declared.Which.{Which}
use Rattle.table.specs.declared.Which.TheVariants.{State, Edge}
use Rattle.tree.specs.Reach.{InSet}
use Rattle.tree.specs.Sound.{Sound}
use Rattle.tree.specs.Judge.{gone, reached_of, sound_of, unlocked}
use Rattle.tree.specs.Answers.{sound_then, keys_of, fits, list_says, head_of, first_says, sweepable, sweep_says}
use Rattle.tree.proofs.Pigeon.{Mem}
use Rattle.tree.proofs.TreeTest.{at_every}
use Rattle.tree.proofs.Judged.{rooted, listed_reached, wanted_is, sound_exactly}
use Rattle.tree.proofs.Lists.{head_13}
use Rattle.tree.proofs.Outcomes.{stopped}
use Rattle.tree.proofs.Sweeping.{Sweepable}

-- 6 for list and first frame: the table is not sound
not_sound : (ws : List ℕ) → table_fine ws ≡ true → sound_of ws ≡ false → Sound ws → ⊥
not_sound ws f e s = true≢false (sym ((sound_exactly ws f).1 s) ∙ e)

-- LIST
pub data WhyList (ws : List ℕ) (low high room : ℕ) : ℕ → Type 0 where
  list_1 : table_fine ws ≡ false → WhyList ws low high room 1
  list_6 : table_fine ws ≡ true → (Sound ws → ⊥) → WhyList ws low high room 6
  list_11 : table_fine ws ≡ true → Sound ws → room < length (keys_of ws low high) → WhyList ws low high room 11

fits_refuses : (room n : ℕ) (ks : List ℕ) → fits room ks ≡ refuses n → (n ≡ 11) × (room < length ks)
unfolding fits
fits_refuses room n ks e = go (ltb room (length ks)) refl e
  where
    go : (t : Bool) → ltb room (length ks) ≡ t → cond t (refuses 11) (gives (length ks)) ≡ refuses n → (n ≡ 11) × (room < length ks)
    go true b h = (cc, ltb-true room (length ks) b)
    go false b h = let z : ◌≡◌ {A = ℕ} 0 1 = cc in absurd (omega arith)

pub list_refuses : (ws : List ℕ) (low high room n : ℕ) → list_says ws low high room ≡ refuses n → WhyList ws low high room n
unfolding list_says
list_refuses ws low high room n e =
    ⊎_elim (λ p. rw p.1 (list_1 p.0))
    (λ p. ⊎_elim (λ q. rw q.1 (list_6 p.0 (not_sound ws p.0 q.0)))
    (λ q. let r = fits_refuses room n (keys_of ws low high) q.1 in rw r.0 (list_11 p.0 ((sound_exactly ws p.0).0 q.0) r.1))
    (stopped (sound_of ws) 6 n (fits room (keys_of ws low high)) p.1))
    (stopped (table_fine ws) 1 n (sound_then ws (fits room (keys_of ws low high))) e)

-- FIRST FRAME
pub data WhyFirst (ws : List ℕ) (from : ℕ) : ℕ → Type 0 where
  first_1 : table_fine ws ≡ false → WhyFirst ws from 1
  first_6 : table_fine ws ≡ true → (Sound ws → ⊥) → WhyFirst ws from 6
  first_13 : table_fine ws ≡ true → Sound ws → ((j : ℕ) → InSet ws j → from ≤ j → ⊥) → WhyFirst ws from 13

pub first_refuses : (ws : List ℕ) (from n : ℕ) → first_says ws from ≡ refuses n → WhyFirst ws from n
unfolding first_says
first_refuses ws from n e =
    ⊎_elim (λ p. rw p.1 (first_1 p.0))
    (λ p. ⊎_elim (λ q. rw q.1 (first_6 p.0 (not_sound ws p.0 q.0)))
    (λ q.
    let s = (sound_exactly ws p.0).0 q.0 in
    let r = head_13 ws p.0 s from n q.1 in
    rw r.0 (first_13 p.0 s r.1))
    (stopped (sound_of ws) 6 n (head_of (keys_of ws from all_ones)) p.1))
    (stopped (table_fine ws) 1 n (sound_then ws (head_of (keys_of ws from all_ones))) e)

-- SWEEP: 8 before 6
pub data WhySweep (ws : List ℕ) : ℕ → Type 0 where
  sweep_1 : table_fine ws ≡ false → WhySweep ws 1
  sweep_8 : table_fine ws ≡ true → busy_of ws ≢ 0 → WhySweep ws 8
  sweep_6 : table_fine ws ≡ true → busy_of ws ≡ 0 → (Sweepable ws → ⊥) → WhySweep ws 6

-- the test is true on every table that can be swept
empty_length : (xs : List ℕ) → ((y : ℕ) → Mem y xs → ⊥) → length xs ≡ 0
empty_length [] f = refl
empty_length (x ∷ xs) f = absurd (f x (Memᴰ.head refl))

all_unlocked : (ws : List ℕ) (i : ℕ) → ((which : Which) → lock_of ws i which ≡ 0) → unlocked ws i ≡ true
unfolding unlocked
all_unlocked ws i f = rw (f State, f (Edge true), f (Edge false))

pub is_sweepable : (ws : List ℕ) → table_fine ws ≡ true → Sweepable ws → sweepable ws ≡ true
unfolding sweepable
is_sweepable ws fine h =
    let s = (sound_exactly ws fine).1 h.sound in
    let n = empty_length (reached_of ws gone) (λ y m.
    let r = listed_reached ws fine (rooted ws fine s) gone y m in
    let v = wanted_is ws gone y r.2 in
    let a = v.0 in
    let b = v.1 in
    h.linked y r.1 (omega arith)) in
    rw (s, at_every (unlocked ws) (slots_of ws) (λ i l. all_unlocked ws i (λ w. h.no_lock i w l)), n)

-- done is no refusal
never : (n : ℕ) → ◌≡◌ {A = Said (Unit {0})} (gives tt) (refuses n) → ⊥
never n e = let z : ◌≡◌ {A = ℕ} 0 1 = cc in omega arith

pub sweep_refuses : (ws : List ℕ) (n : ℕ) → sweep_says ws ≡ refuses n → WhySweep ws n
unfolding sweep_says
sweep_refuses ws n e =
    ⊎_elim (λ p. rw p.1 (sweep_1 p.0))
    (λ p. ⊎_elim (λ q. rw q.1 (sweep_8 p.0 (eqb-false (busy_of ws) 0 q.0)))
    (λ q. ⊎_elim
    (λ r. rw r.1 (sweep_6 p.0 (eqb-true (busy_of ws) 0 q.0) (λ h. true≢false (sym (is_sweepable ws p.0 h) ∙ r.0))))
    (λ r. absurd (never n r.1))
    (stopped (sweepable ws) 6 n (gives tt) q.1))
    (stopped (eqb (busy_of ws) 0) 8 n _ p.1))
    (stopped (table_fine ws) 1 n _ e)
