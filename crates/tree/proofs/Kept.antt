-- NO DELETED SLOT IS REACHED exactly where no slot that is neither free nor deleted leads to one: so a sweep may look at the
-- slots one by one.
-- Assumes nothing.
use mathlib.Core.Path.{◌≡◌, refl, sym, ◌∙◌}
use mathlib.Core.Bool.{Bool, true, false, not, ◌&&◌, ◌||◌}
use mathlib.Core.List.{List}
use mathlib.Core.Logic.{inl, inr, ⊎_elim, ◌≢◌}
use Prim.Native.Nat.{ℕ, ◌≤◌, ◌<◌}
use native.Mathlib.Omega.{arith}
use native.Mathlib.Decide.{ℕ_discrete}
use lib.Dec.{eqb}
use borrow.Author.Tests.{eqb-true, eqb-false, eq-eqb, ne_eqb, not-true}
use Rattle.moment.proofs.Tests.{tests, either}
use Rattle.table.specs.Pair.{free, as_data, deleted, state_f, slots_of, state_of, link_of, lock_of}
use Rattle.table.specs.Rules.{table_fine}
use Rattle.table.specs.declared.Which.TheVariants.{State, Edge}
use Rattle.table.proofs.PairLaws.{field_lt}
use Rattle.tree.specs.Reach.{tab_of, top, kid, Reached}
use Rattle.tree.specs.Sound.{Sound}
use Rattle.tree.specs.Judge.{every, sound_of, unlocked}
use Rattle.tree.specs.Places.{kept}
use Rattle.tree.specs.Answers.{sweepable}
use Rattle.tree.proofs.Recursions.{every_not}
use Rattle.tree.proofs.TreeTest.{every_at, at_every, reached_in}
use Rattle.tree.proofs.Judged.{root_of, sound_exactly}
use Rattle.tree.proofs.Sweeping.{Sweepable, unlocked_is, sweepable_is}
use Rattle.tree.proofs.Refusals.{is_sweepable}

-- what a kept slot is
leads : (ws : List ℕ) (i : ℕ) → kept ws i ≡ true → state_of ws i ≢ free → state_of ws i ≢ deleted → (d : Bool) → state_of ws (link_of ws i d) ≢ deleted
unfolding kept
leads ws i e f g d =
    let p = simp tests at e in ⊎_elim
    (λ a. ⊎_elim (λ z. absurd (f (eqb-true (state_of ws i) free z))) (λ z. absurd (g (eqb-true (state_of ws i) deleted z))) (either _ _ a))
    (λ a. let q = simp tests at a in side d q.0 q.1)
    (either _ _ p.1)
  where
    side : (d : Bool) → not (eqb (state_of ws (link_of ws i true)) deleted) ≡ true → not (eqb (state_of ws (link_of ws i false)) deleted) ≡ true → state_of ws (link_of ws i d) ≢ deleted
    side true a b = eqb-false (state_of ws (link_of ws i true)) deleted (not-true (eqb (state_of ws (link_of ws i true)) deleted) a)
    side false a b = eqb-false (state_of ws (link_of ws i false)) deleted (not-true (eqb (state_of ws (link_of ws i false)) deleted) b)

is_kept : (ws : List ℕ) (i : ℕ) → unlocked ws i ≡ true → (state_of ws i ≢ free → state_of ws i ≢ deleted → (d : Bool) → state_of ws (link_of ws i d) ≢ deleted) → kept ws i ≡ true
unfolding kept
is_kept ws i u h = rw u (go (ℕ_discrete (state_of ws i) free) (ℕ_discrete (state_of ws i) deleted))
  where
    go : Dec (state_of ws i ≡ free) → Dec (state_of ws i ≡ deleted)
        → (eqb (state_of ws i) free || eqb (state_of ws i) deleted || (not (eqb (state_of ws (link_of ws i true)) deleted) && not (eqb (state_of ws (link_of ws i false)) deleted))) ≡ true
    go (yes f) g = rw (eq-eqb (state_of ws i) free f)
    go (no f) (yes g) = rw (ne_eqb (state_of ws i) free f, eq-eqb (state_of ws i) deleted g)
    go (no f) (no g) =
        rw (ne_eqb (state_of ws i) free f, ne_eqb (state_of ws i) deleted g, ne_eqb (state_of ws (link_of ws i true)) deleted (h f g true), ne_eqb (state_of ws (link_of ws i false)) deleted (h f g false))

module _ (ws : List ℕ) (fine : table_fine ws ≡ true) (e : sound_of ws ≡ true) where
  sound : Sound ws
  sound = (sound_exactly ws fine).0 e

  root_stays : state_of ws 0 ≢ deleted
  root_stays d = let q = (root_of ws fine).root_data in omega arith

  in_table : {y : ℕ} → Reached (tab_of ws) y → y < slots_of ws
  in_table r = let l = (root_of ws fine).slots in reached_in ws sound (omega arith) r

  none_deleted : ((i : ℕ) → i < slots_of ws → kept ws i ≡ true) → {y : ℕ} → Reached (tab_of ws) y → state_of ws y ≢ deleted
  none_deleted k (top z) = rw z root_stays
  none_deleted k (kid {p = p} d r q n) = rw (← q) (leads ws p (k p (in_table r)) (sound.taken p r) (none_deleted k r) d)

  kept_sweepable : every (kept ws) (slots_of ws) ≡ true → Sweepable ws
  unfolding kept
  kept_sweepable a =
      let k = every_at (kept ws) (slots_of ws) a in
      record {
        sound = sound;
        no_lock = λ i w l. let p = simp tests at (k i l) in unlocked_is ws i p.0 w;
        linked = λ y r. none_deleted k r;
      }

  sweepable_kept : Sweepable ws → every (kept ws) (slots_of ws) ≡ true
  unfolding unlocked
  sweepable_kept s = at_every (kept ws) (slots_of ws) (λ i l.
      is_kept ws i
      (rw (eq-eqb (lock_of ws i State) 0 (s.no_lock i State l), eq-eqb (lock_of ws i (Edge true)) 0 (s.no_lock i (Edge true) l), eq-eqb (lock_of ws i (Edge false)) 0 (s.no_lock i (Edge false) l)))
      (λ f g d. child d (ℕ_discrete (link_of ws i d) 0) (live i l f g)))
    where
      live : (i : ℕ) → i < slots_of ws → state_of ws i ≢ free → state_of ws i ≢ deleted → Reached (tab_of ws) i
      live i l f g = go (ℕ_discrete (state_of ws i) as_data)
        where
          go : Dec (state_of ws i ≡ as_data) → Reached (tab_of ws) i
          go (yes q) = sound.alive i l (inl q)
          go (no q) = let b = field_lt state_f ws i in sound.alive i l (inr (omega arith))

      child : {i : ℕ} (d : Bool) → Dec (link_of ws i d ≡ 0) → Reached (tab_of ws) i → state_of ws (link_of ws i d) ≢ deleted
      child d (yes z) r = rw z root_stays
      child {i} d (no z) r = s.linked (link_of ws i d) (kid d r refl z)

  -- a slot that is not kept, or all that are
  module _ (n : ℕ) (en : n ≡ slots_of ws) (i : ℕ) where
    pub sweepable_not : i < n → kept ws i ≡ false → false ≡ sweepable ws
    sweepable_not l h = go (sweepable ws) refl
      where
        go : (b : Bool) → sweepable ws ≡ b → false ≡ b
        go true q = sym (every_not (kept ws) (slots_of ws) i (rw en at l) h) ∙ sweepable_kept (sweepable_is ws fine q)
        go false q = refl

    pub sweepable_all : i ≤ n → n ≤ i → every (kept ws) i ≡ true → true ≡ sweepable ws
    sweepable_all a b h =
        let z : i ≡ slots_of ws = omega arith in
        sym (is_sweepable ws fine (kept_sweepable (rw z at h)))
