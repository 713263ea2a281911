-- AFTER A SWEEP THAT WAS DONE the set is the same, the table is sound, no deleted slot is left, no lock is held.
-- Assumes nothing.
use mathlib.Core.Path.{◌≡◌, refl, sym, ap, ◌∙◌}
use mathlib.Core.Bool.{Bool, true, false, cond, or-true}
use mathlib.Core.List.Memᴰ
use mathlib.Core.List.{List, [], ◌∷◌}
use mathlib.Core.Logic.{◌↔◌, ◌⊎◌, inl, inr, ⊎_elim, ◌≢◌}
use Prim.Native.Nat.{ℕ, ◌<◌}
use native.Mathlib.Omega.{arith}
use native.Mathlib.Decide.{ℕ_discrete}
use lib.Dec.{eqb}
use lib.ListN.{length}
use borrow.Author.Tests.{eqb-true, lt-ltb}
use Rattle.refusal.specs.Said.{Said, gives, refuses}
use Rattle.moment.proofs.Tests.{tests}
use Rattle.table.specs.Pair.{free, as_data, routing, deleted, slots_of, word_of, key_of, field_of, state_f, link_f, lock_f, busy_f, zeros_f, state_of, link_of, lock_of, busy_of, zero_pair}
use Rattle.table.specs.Rules.{lock_fine, bits_fine, root_fine, table_fine}
use Rattle.table.specs.declared.Which.{Which}
use Rattle.table.specs.declared.Which.TheVariants.{State, Edge}
use Rattle.tree.specs.Reach.{Tab, tab_of, Under, top, kid, Reached, InSet}
use Rattle.tree.specs.Sound.{Sound, Beside}
use Rattle.tree.specs.Judge.{gone, reached_of, unlocked}
use Rattle.tree.specs.Answers.{sweepable, sweep_says, swept, sweep_words}
use Rattle.tree.proofs.Paths.{under_trans, beside_under}
use Rattle.tree.proofs.Pigeon.{Mem}
use Rattle.tree.proofs.Trees.{reached_bounds}
use Rattle.tree.proofs.TreeTest.{every_at}
use Rattle.tree.proofs.Judged.{root_of, rooted, reached_listed, is_wanted, sound_exactly, link_in}
use Rattle.tree.proofs.Swept.{Sweeps, sweeps}

-- a table that can be swept: sound, no lock held, no deleted slot reached
pub record Sweepable (ws : List ℕ) : Type 0 where
  pub sound : Sound ws
  pub no_lock : (i : ℕ) (which : Which) → i < slots_of ws → lock_of ws i which ≡ 0
  pub linked : (y : ℕ) → Reached (tab_of ws) y → state_of ws y ≢ deleted

none_of : (xs : List ℕ) → length xs ≡ 0 → (y : ℕ) → Mem y xs → ⊥
none_of [] e y m = Memᴰ.not-nil m
none_of (x ∷ xs) e y m = omega arith

pub unlocked_is : (ws : List ℕ) (i : ℕ) → unlocked ws i ≡ true → (w : Which) → lock_of ws i w ≡ 0
unfolding unlocked
unlocked_is ws i e State = let p = simp tests at e in p.0.0
unlocked_is ws i e (Edge true) = let p = simp tests at e in p.0.1
unlocked_is ws i e (Edge false) = let p = simp tests at e in p.1

pub sweepable_is : (ws : List ℕ) → table_fine ws ≡ true → sweepable ws ≡ true → Sweepable ws
unfolding sweepable
sweepable_is ws fine e =
    let p = simp tests at e in
    let s = p.0.0 in
    let t = rooted ws fine s in
    let root = root_of ws fine in
    record {
      sound = (sound_exactly ws fine).0 s;
      no_lock = λ i w l. unlocked_is ws i (every_at (unlocked ws) (slots_of ws) p.0.1 i l) w;
      linked = λ y r d. none_of (reached_of ws gone) p.1 y
          (let n : y ≢ 0 = λ z. (let q = root.root_data in let d' : state_of ws 0 ≡ deleted = ap (state_of ws) (sym z) ∙ d in omega arith) in
          let b = reached_bounds t r n in
          let o = root.ones in
          reached_listed ws fine t gone y n r (is_wanted ws gone y (omega arith) (omega arith) (omega arith) (omega arith)));
    }

-- the bit rules see nothing but fields
bits_same : (ws vs : List ℕ) (i : ℕ) → length vs ≡ length ws → ((f : ℕ) → field_of f vs i ≡ field_of f ws i) → bits_fine vs i ≡ bits_fine ws i
unfolding bits_fine
bits_same ws vs i l f = rw (l, f (link_f true), f (link_f false), f (lock_f State), f (lock_f (Edge true)), f (lock_f (Edge false)), f busy_f, f zeros_f)

bits_zero : (vs : List ℕ) (i : ℕ) → 0 < slots_of vs → ((f : ℕ) → field_of f vs i ≡ 0) → bits_fine vs i ≡ true
unfolding bits_fine lock_fine
bits_zero vs i l f = rw (f (link_f true), f (link_f false), f (lock_f State), f (lock_f (Edge true)), f (lock_f (Edge false)), f busy_f, f zeros_f, lt-ltb 0 (slots_of vs) l, or-true (eqb i 0))

zero_same : (ws vs : List ℕ) (i : ℕ) → ((k : ℕ) → k < 2 → word_of vs i k ≡ word_of ws i k) → zero_pair vs i ≡ zero_pair ws i
unfolding zero_pair
zero_same ws vs i f = rw (f 0 (omega arith), f 1 (omega arith))

zero_zero : (vs : List ℕ) (i : ℕ) → ((k : ℕ) → k < 2 → word_of vs i k ≡ 0) → zero_pair vs i ≡ true
unfolding zero_pair
zero_zero vs i f = rw (f 0 (omega arith), f 1 (omega arith))

-- THE TABLE AFTER
module _ (ws vs : List ℕ) (fine : table_fine ws ≡ true) (h : Sweepable ws) (s : Sweeps ws vs) where
  abbrev A : Tab
  A = tab_of ws

  abbrev B : Tab
  B = tab_of vs

  some : 0 < slots_of ws
  some = let l = (root_of ws fine).slots in omega arith

  gone_or_not : (i : ℕ) → (state_of ws i ≡ deleted) ⊎ (state_of ws i ≢ deleted)
  gone_or_not i = go (ℕ_discrete (state_of ws i) deleted)
    where
      go : Dec (state_of ws i ≡ deleted) → (state_of ws i ≡ deleted) ⊎ (state_of ws i ≢ deleted)
      go (yes e) = inl e
      go (no e) = inr e

  -- a reached slot stays as it is
  same_link : {x : ℕ} → Reached A x → (d : Bool) → link_of vs x d ≡ link_of ws x d
  same_link {x} r d = s.field (link_f d) x (h.linked x r)

  same_state : {x : ℕ} → Reached A x → state_of vs x ≡ state_of ws x
  same_state {x} r = s.field state_f x (h.linked x r)

  same_key : {x : ℕ} → Reached A x → key_of vs x ≡ key_of ws x
  same_key {x} r = s.kept x 0 (omega arith) (h.linked x r)

  -- so what hangs at a reached slot does so before and after
  under_back : {x y : ℕ} → Reached A x → Under B x y → Under A x y
  under_back r (top e) = top e
  under_back r (kid d u e n) = let v = under_back r u in kid d v (sym (same_link (under_trans r v) d) ∙ e) n

  under_on : {x y : ℕ} → Reached A x → Under A x y → Under B x y
  under_on r (top e) = top e
  under_on r (kid d u e n) = kid d (under_on r u) (same_link (under_trans r u) d ∙ e) n

  back : {y : ℕ} → Reached B y → Reached A y
  back r = under_back (top refl) r

  beside_back : {x y : ℕ} (d : Bool) → Reached A x → Beside B x d y → Beside A x d y
  beside_back {x} {y} d r b =
      let e = same_link r d in
      let n : link_of ws x d ≢ 0 = λ z. b.0 (e ∙ z) in
      let u : Under B (link_of ws x d) y = rw e at b.1 in
      (n, under_back (kid d r refl n) u)

  -- THE SET IS THE SAME
  pub swept_set : (k : ℕ) → InSet vs k ↔ InSet ws k
  swept_set k = (
    (λ (y, n, t, e, r). let q = back r in (y, n, sym (same_state q) ∙ t, sym (same_key q) ∙ e, q)),
    λ (y, n, t, e, r). (y, n, same_state r ∙ t, same_key r ∙ e, under_on (top refl) r),
  )

  swept_bits : (i : ℕ) → i < slots_of ws → bits_fine vs i ≡ true
  swept_bits i l = ⊎_elim
      (λ d. bits_zero vs i (rw s.size some) (λ f. s.zero_field f i l d))
      (λ d. bits_same ws vs i s.size (λ f. s.field f i d) ∙ h.sound.bits i l)
      (gone_or_not i)

  swept_zeros : (i : ℕ) → i < slots_of ws → state_of vs i ≡ free → zero_pair vs i ≡ true
  swept_zeros i l e = ⊎_elim
      (λ d. zero_zero vs i (λ k b. s.zeroed i k b l d))
      (λ d. zero_same ws vs i (λ k b. s.kept i k b d) ∙ h.sound.zeros i l (sym (s.field state_f i d) ∙ e))
      (gone_or_not i)

  -- a state that is not free was there before
  was : (i a : ℕ) → i < slots_of ws → state_of vs i ≡ a → a ≢ 0 → state_of ws i ≡ a
  was i a l e n = ⊎_elim (λ d. absurd (n (sym e ∙ s.zero_field state_f i l d))) (λ d. sym (s.field state_f i d) ∙ e) (gone_or_not i)

  -- THE TABLE IS SOUND
  pub swept_sound : Sound vs
  swept_sound =
      let z = s.size in
      record {
        bits = λ i l. swept_bits i (rw z at l);
        zeros = λ i l. swept_zeros i (rw z at l);
        inside = λ i d l. link_in vs i d (swept_bits i (rw z at l));
        once = λ p q y d e r t f g n.
            h.sound.once p q y d e (back r) (back t) (sym (same_link (back r) d) ∙ f) (sym (same_link (back t) e) ∙ g) n;
        taken = λ y r e. h.sound.taken y (back r) (sym (same_state (back r)) ∙ e);
        left = λ x y r b.
            let c = beside_back true (back r) b in
            omega (arith, same_key (back r), same_key (under_trans (back r) (beside_under x true c)), h.sound.left x y (back r) c);
        right = λ x y r b.
            let c = beside_back false (back r) b in
            omega (arith, same_key (back r), same_key (under_trans (back r) (beside_under x false c)), h.sound.right x y (back r) c);
        two = λ x d r e n. h.sound.two x d (back r) (sym (same_state (back r)) ∙ e) (sym (same_link (back r) d) ∙ n);
        alive = λ i l t. under_on (top refl) (h.sound.alive i (rw z at l)
            (⊎_elim (λ e. inl (was i as_data (rw z at l) e (omega arith))) (λ e. inr (was i routing (rw z at l) e (omega arith))) t));
        legal = λ y r n. rw (same_key (back r)) (h.sound.legal y (back r) n);
      }

  -- NO DELETED SLOT IS LEFT
  pub swept_none : (i : ℕ) → i < slots_of vs → state_of vs i ≢ deleted
  swept_none i l e = let j : i < slots_of ws = rw s.size at l in
      ⊎_elim (λ d. let q = s.zero_field state_f i j d in absurd (omega arith)) (λ d. d (sym (s.field state_f i d) ∙ e)) (gone_or_not i)

  -- NO LOCK IS HELD
  pub swept_locks : (i : ℕ) (which : Which) → i < slots_of vs → lock_of vs i which ≡ 0
  swept_locks i w l = let j : i < slots_of ws = rw s.size at l in
      ⊎_elim (λ d. s.zero_field (lock_f w) i j d) (λ d. s.field (lock_f w) i d ∙ h.no_lock i w j) (gone_or_not i)

  -- rule 1 is kept, and nobody is busy
  root_stays : state_of ws 0 ≢ deleted
  root_stays = h.linked 0 (top refl)

  pub swept_fine : table_fine vs ≡ true
  unfolding table_fine root_fine
  swept_fine =
      rw (
        s.size,
        s.kept 0 0 (omega arith) root_stays,
        s.field state_f 0 root_stays,
        s.field (link_f false) 0 root_stays,
        bits_same ws vs 0 s.size (λ f. s.field f 0 root_stays),
        s.field busy_f 0 root_stays,
      ) fine

  pub swept_busy : busy_of vs ≡ busy_of ws
  swept_busy = s.field busy_f 0 root_stays

-- A SWEEP THAT WAS DONE
pub record AfterSweep (ws vs : List ℕ) : Type 0 where
  pub before : Sweepable ws
  pub nobody : busy_of ws ≡ 0
  -- every deleted slot became free, all else stayed
  pub words : Sweeps ws vs
  pub set : (k : ℕ) → InSet vs k ↔ InSet ws k
  pub fine : table_fine vs ≡ true
  pub sound : Sound vs
  pub none : (i : ℕ) → i < slots_of vs → state_of vs i ≢ deleted
  pub locks : (i : ℕ) (which : Which) → i < slots_of vs → lock_of vs i which ≡ 0

sweep_tells : (f b g : Bool) → ◌≡◌ {A = Said (Unit {0})} (cond f (cond b (cond g (gives tt) (refuses 6)) (refuses 8)) (refuses 1)) (gives tt)
    → (f ≡ true) × (b ≡ true) × (g ≡ true)
sweep_tells true true true e = (refl, refl, refl)
sweep_tells true true false e = let z : ◌≡◌ {A = ℕ} 0 1 = cc in absurd (omega arith)
sweep_tells true false g e = let z : ◌≡◌ {A = ℕ} 0 1 = cc in absurd (omega arith)
sweep_tells false b g e = let z : ◌≡◌ {A = ℕ} 0 1 = cc in absurd (omega arith)

tells : (ws : List ℕ) → sweep_says ws ≡ gives tt → (table_fine ws ≡ true) × (eqb (busy_of ws) 0 ≡ true) × (sweepable ws ≡ true)
unfolding sweep_says
tells ws e = sweep_tells (table_fine ws) (eqb (busy_of ws) 0) (sweepable ws) e

pub sweep_done : (ws : List ℕ) → sweep_says ws ≡ gives tt → AfterSweep ws (sweep_words ws)
unfolding sweep_words
sweep_done ws e =
    let (f, b, g) = tells ws e in
    let h = sweepable_is ws f g in
    let vs = swept ws (slots_of ws) in
    let s = sweeps ws in
    rw e
    (record {
      before = h;
      nobody = eqb-true (busy_of ws) 0 b;
      words = s;
      set = swept_set ws vs f h s;
      fine = swept_fine ws vs f h s;
      sound = swept_sound ws vs f h s;
      none = swept_none ws vs f h s;
      locks = swept_locks ws vs f h s;
    })
