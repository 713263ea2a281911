-- THE TEST IS TRUE EXACTLY ON SOUND TABLES, among those that are not refused 1.
-- Assumes nothing.
use mathlib.Core.Path.{◌≡◌, refl, sym, ap, ◌∙◌}
use mathlib.Core.Bool.{Bool, true, false, not, ◌||◌}
use mathlib.Core.List.Memᴰ
use mathlib.Core.List.{List, ◌++◌}
use mathlib.Core.Logic.{◌↔◌, ◌⊎◌, inl, inr, ⊎_elim, ◌≢◌}
use Prim.Native.Nat.{ℕ, zero, suc, ◌≤◌, ◌<◌}
use native.Mathlib.Omega.{arith}
use native.Mathlib.Decide.{ℕ_discrete}
use lib.Dec.{eqb}
use lib.ListN.{length}
use borrow.Author.Tests.{eqb-true, eqb-false, eq-eqb, ne_eqb, le-leb, not-true}
use Rattle.moment.proofs.Tests.{tests, either}
use Rattle.table.specs.Pair.{free, as_data, routing, slots_of, key_of, state_of, link_of, zero_pair}
use Rattle.table.specs.Rules.{all_ones, bits_fine, root_fine, size_fine, table_fine}
use Rattle.tree.specs.Reach.{Tab, tab_of, top, kid, Reached}
use Rattle.tree.specs.Sound.{Sound}
use Rattle.tree.specs.Judge.{pair_sound, Want, want, wanted, own, reached_of, live, live_of, live_slots, sound_of}
use Rattle.tree.proofs.Paths.{under_some, ordered, unique_parent, left_smaller, right_larger, beside_under}
use Rattle.tree.specs.Places.{picked, asked}
use Rattle.tree.proofs.Recursions.{live_picked}
use Rattle.tree.proofs.Pigeon.{Mem, Distinct, All_of, pigeon, all_there, few}
use Rattle.tree.proofs.Trees.{Rooted, reach_split, reached_has, reached_bounds, tree_between}
use Rattle.tree.proofs.TreeTest.{reached_in, every_at, at_every, Fine, tree_there, tree_passes}
use Rattle.tree.proofs.Listing.{own_is, is_own, rises, rising_distinct, listed_hangs, hangs_listed}

-- RULE 1 says of the root
pub record Root (ws : List ℕ) : Type 0 where
  pub ones : key_of ws 0 ≡ all_ones
  pub root_data : state_of ws 0 ≡ as_data
  pub right : link_of ws 0 false ≡ 0
  pub bits : bits_fine ws 0 ≡ true
  pub slots : 1 < slots_of ws

pub root_of : (ws : List ℕ) → table_fine ws ≡ true → Root ws
unfolding table_fine root_fine size_fine
root_of ws e =
    let p = simp tests at e in
    record { ones = p.1.0.0.0.0; root_data = p.1.0.0.0.1; right = p.1.0.0.1; bits = p.1.0.1; slots = omega arith }

-- THE LIVE SLOTS OF THE TABLE: data or routing, the root aside
live_is : (ws : List ℕ) (i : ℕ) → live_of ws i ≡ true → (i ≢ 0) × (as_data ≤ state_of ws i) × (state_of ws i ≤ routing)
unfolding live_of
live_is ws i e = let p = simp tests at e in (eqb-false i 0 (not-true (eqb i 0) p.0.0), p.0.1, p.1)

is_live : (ws : List ℕ) (i : ℕ) → i ≢ 0 → as_data ≤ state_of ws i → state_of ws i ≤ routing → live_of ws i ≡ true
unfolding live_of
is_live ws i z a b = rw (ne_eqb i 0 z, le-leb as_data (state_of ws i) a, le-leb (state_of ws i) routing b)

-- the slots that pass a test
picked_mem : (f : ℕ → Bool) (n y : ℕ) → Mem y (picked f n) → (y < n) × (f y ≡ true)
unfolding picked
picked_mem f zero y m = absurd (Memᴰ.not-nil m)
picked_mem f (suc n) y m = ⊎_elim
    (λ a. let i = own_is (f n) n y a in let e = i.0 in (omega arith, rw e i.1))
    (λ a. let i = picked_mem f n y a in let l = i.0 in (omega arith, i.1))
    (Memᴰ.append_cases (own (f n) n) m)

mem_picked : (f : ℕ → Bool) (n y : ℕ) → y < n → f y ≡ true → Mem y (picked f n)
unfolding picked
mem_picked f zero y h e = absurd (omega arith)
mem_picked f (suc n) y h e = go (ℕ_discrete y n) (λ l. mem_picked f n y l e)
  where
    go : Dec (y ≡ n) → (y < n → Mem y (picked f n)) → Mem y (own (f n) n ++ picked f n)
    go (yes q) r = Memᴰ.append_left (picked f n) (is_own (f n) n y (rw q at e) q)
    go (no q) r = Memᴰ.append_right (own (f n) n) (r (omega arith))

distinct_own : (b : Bool) (n : ℕ) (xs : List ℕ) → ((y : ℕ) → Mem y xs → y < n) → Distinct xs → Distinct (own b n ++ xs)
distinct_own true n xs f d = (All_of (λ y. y ≢ n) xs (λ y m e. let l = f y m in omega arith), d)
distinct_own false n xs f d = d

picked_distinct : (f : ℕ → Bool) (n : ℕ) → Distinct (picked f n)
unfolding picked
picked_distinct f zero = tt
picked_distinct f (suc n) = distinct_own (f n) n (picked f n) (λ y m. (picked_mem f n y m).0) (picked_distinct f n)

pub picked_few : (f : ℕ → Bool) (n : ℕ) → length (picked f n) ≤ n
picked_few f n = few n (picked f n) (picked_distinct f n) (All_of (λ y. y < n) (picked f n) (λ y m. (picked_mem f n y m).0))

live_mem : (ws : List ℕ) (n y : ℕ) → Mem y (live_slots ws n) → (y < n) × (live_of ws y ≡ true)
live_mem ws n y m = picked_mem (live_of ws) n y (rw (live_picked ws n) m)

mem_live : (ws : List ℕ) (n y : ℕ) → y < n → live_of ws y ≡ true → Mem y (live_slots ws n)
mem_live ws n y h e = rw (live_picked ws n) at (mem_picked (live_of ws) n y h e)

live_distinct : (ws : List ℕ) (n : ℕ) → Distinct (live_slots ws n)
live_distinct ws n = rw (live_picked ws n) at (picked_distinct (live_of ws) n)

-- asked for as live
pub wanted_is : (ws : List ℕ) (w : Want) (y : ℕ) → wanted ws w y ≡ true
    → (w.first ≤ state_of ws y) × (state_of ws y ≤ w.last) × (w.low ≤ key_of ws y) × (key_of ws y ≤ w.high)
unfolding wanted
wanted_is ws w y e = let p = simp tests at e in (p.0.0.0, p.0.0.1, p.0.1, p.1)

pub is_wanted : (ws : List ℕ) (w : Want) (y : ℕ) → w.first ≤ state_of ws y → state_of ws y ≤ w.last → w.low ≤ key_of ws y → key_of ws y ≤ w.high → wanted ws w y ≡ true
unfolding wanted
is_wanted ws w y a b c d = rw (le-leb w.first (state_of ws y) a, le-leb (state_of ws y) w.last b, le-leb w.low (key_of ws y) c, le-leb (key_of ws y) w.high d)

-- a pair: the bit rules, no link beyond the table, zero where it is free
pair_is : (ws : List ℕ) (i : ℕ) → pair_sound ws i ≡ true → (bits_fine ws i ≡ true) × (state_of ws i ≡ free → zero_pair ws i ≡ true)
unfolding pair_sound
pair_is ws i e =
    let p = simp tests at e in
    (p.0, λ z. ⊎_elim (λ n. absurd (eqb-false (state_of ws i) free (not-true (eqb (state_of ws i) free) n) z)) (λ h. h) (either _ _ p.1))

pub is_pair : (ws : List ℕ) (i : ℕ) → bits_fine ws i ≡ true → (state_of ws i ≡ free → zero_pair ws i ≡ true) → pair_sound ws i ≡ true
unfolding pair_sound
is_pair ws i b f = rw b (go (eqb (state_of ws i) free) refl)
  where
    go : (t : Bool) → eqb (state_of ws i) free ≡ t → (not t || zero_pair ws i) ≡ true
    go true e = f (eqb-true (state_of ws i) free e)
    go false e = refl

links_in : (ws : List ℕ) (i : ℕ) → bits_fine ws i ≡ true → (link_of ws i true < slots_of ws) × (link_of ws i false < slots_of ws)
unfolding bits_fine
links_in ws i e = let p = simp tests at e in (p.0.0.0.0.0.0, p.0.0.0.0.0.1)

pub link_in : (ws : List ℕ) (i : ℕ) (d : Bool) → bits_fine ws i ≡ true → link_of ws i d < slots_of ws
link_in ws i true e = (links_in ws i e).0
link_in ws i false e = (links_in ws i e).1

-- THE THEOREM
module _ (ws : List ℕ) (fine : table_fine ws ≡ true) where
  abbrev A : Tab
  A = tab_of ws

  root : Root ws
  root = root_of ws fine

  -- where the tree passes, the live slots that are reached are those listed
  module _ (t : Rooted A (Fine ws) (slots_of ws)) where
    list_distinct : (w : Want) → Distinct (reached_of ws w)
    unfolding reached_of
    list_distinct w = rising_distinct (key_of ws) (reached_of ws w) (rises ws w t.tree)

    -- what is listed is asked for and reached, and what is asked for and reached is listed
    pub listed_reached : (w : Want) (y : ℕ) → Mem y (reached_of ws w) → (y ≢ 0) × Reached A y × (wanted ws w y ≡ true)
    unfolding reached_of
    listed_reached w y m =
        let h = listed_hangs ws w (slots_of ws) (link_of ws 0 true) y m in
        (under_some h.1 h.0, beside_under 0 true (h.0, h.1), h.2)

    pub reached_listed : (w : Want) (y : ℕ) → y ≢ 0 → Reached A y → wanted ws w y ≡ true → Mem y (reached_of ws w)
    unfolding reached_of
    reached_listed w y z r v = ⊎_elim (λ e. absurd (z e)) (λ b. hangs_listed ws w y t.tree b.0 b.1 v) (reach_split t r)

    listed_live : ((x : ℕ) → Reached A x → x < slots_of ws) → (y : ℕ) → Mem y (reached_of ws live) → Mem y (live_slots ws (slots_of ws))
    listed_live inside y m =
        let h = listed_reached live y m in
        let v = wanted_is ws live y h.2 in
        mem_live ws (slots_of ws) y (inside y h.1) (is_live ws y h.0 v.0 v.1)

    live_listed : (y : ℕ) → Reached A y → live_of ws y ≡ true → Mem y (reached_of ws live)
    live_listed y r e =
        let v = live_is ws y e in
        let b = reached_bounds t r v.0 in
        let o = root.ones in
        reached_listed live y v.0 r (is_wanted ws live y v.1 v.2 (omega arith) (omega arith))

  -- what the test finds
  pub rooted : sound_of ws ≡ true → Rooted A (Fine ws) (slots_of ws)
  unfolding sound_of
  rooted e = let p = simp tests at e in record { tree = tree_there ws (slots_of ws) (link_of ws 0 true) 0 (key_of ws 0) p.0.1; right = root.right }

  module _ (e : sound_of ws ≡ true) where
    pair_at : (i : ℕ) → i < slots_of ws → (bits_fine ws i ≡ true) × (state_of ws i ≡ free → zero_pair ws i ≡ true)
    unfolding sound_of
    pair_at i l = let p = simp tests at e in pair_is ws i (every_at (pair_sound ws) (slots_of ws) p.0.0 i l)

    counted : length (reached_of ws live) ≡ length (live_slots ws (slots_of ws))
    unfolding sound_of
    counted = let p = simp tests at e in p.1

    t : Rooted A (Fine ws) (slots_of ws)
    t = rooted e

    in_table : {x : ℕ} → Reached A x → x < slots_of ws
    in_table (top q) = let l = root.slots in omega arith
    in_table (kid {p = p} d r q n) = rw (← q) (link_in ws p d (pair_at p (in_table r)).0)

    -- the root is data, and all else is fine
    by_root : (x : ℕ) → Reached A x → (x ≡ 0) ⊎ Fine ws x
    by_root x r = go (ℕ_discrete x 0)
      where
        go : Dec (x ≡ 0) → (x ≡ 0) ⊎ Fine ws x
        go (yes z) = inl z
        go (no z) = inr (reached_has t r z)

    all_reached : (i : ℕ) → i < slots_of ws → as_data ≤ state_of ws i → state_of ws i ≤ routing → Reached A i
    all_reached i l a b = go (ℕ_discrete i 0)
      where
        go : Dec (i ≡ 0) → Reached A i
        go (yes z) = top z
        go (no z) =
            let n = counted in
            let m = all_there (reached_of ws live) (live_slots ws (slots_of ws)) (list_distinct t live)
            (listed_live t (λ x r. in_table r)) (omega arith) i (mem_live ws (slots_of ws) i l (is_live ws i z a b)) in
            (listed_reached t live i m).1

    test_sound : Sound ws
    test_sound =
        record {
          bits = λ i l. (pair_at i l).0;
          zeros = λ i l. (pair_at i l).1;
          inside = λ i d l. link_in ws i d (pair_at i l).0;
          once = λ p q y d d' r s f g n. unique_parent (ordered (tree_between t)) d d' r s f g n;
          taken = λ y r. ⊎_elim (λ z f. let q = root.root_data in let g : state_of ws 0 ≡ free = ap (state_of ws) (sym z) ∙ f in omega arith) (λ f. f.taken) (by_root y r);
          left = left_smaller (tree_between t);
          right = right_larger (tree_between t);
          two = λ x d r s. ⊎_elim (λ z. let q = root.root_data in let s' = rw z at s in absurd (omega arith)) (λ f. f.two s d) (by_root x r);
          alive = λ i l s. ⊎_elim (λ z. all_reached i l (omega arith) (omega arith)) (λ z. all_reached i l (omega arith) (omega arith)) s;
          legal = λ y r z. (reached_has t r z).legal;
        }

  sound_test : Sound ws → sound_of ws ≡ true
  unfolding sound_of
  sound_test h =
      let l = root.slots in
      let ok = tree_passes ws h (omega arith) (slots_of ws) (omega arith) in
      let t : Rooted A (Fine ws) (slots_of ws) = record { tree = tree_there ws (slots_of ws) (link_of ws 0 true) 0 (key_of ws 0) ok; right = root.right } in
      let a = pigeon (reached_of ws live) (live_slots ws (slots_of ws)) (list_distinct t live)
      (listed_live t (λ x r. reached_in ws h (omega arith) r)) in
      let b = pigeon (live_slots ws (slots_of ws)) (reached_of ws live) (live_distinct ws (slots_of ws))
      (λ y m. let i = live_mem ws (slots_of ws) y m in live_listed t y (alive_at y i.0 (live_is ws y i.1)) i.1) in
      rw (at_every (pair_sound ws) (slots_of ws) (λ i j. is_pair ws i (h.bits i j) (h.zeros i j)), ok, eq-eqb (length (reached_of ws live)) (length (live_slots ws (slots_of ws))) (omega arith))
    where
      alive_at : (y : ℕ) → y < slots_of ws → (y ≢ 0) × (as_data ≤ state_of ws y) × (state_of ws y ≤ routing) → Reached A y
      alive_at y j v = go (ℕ_discrete (state_of ws y) as_data)
        where
          go : Dec (state_of ws y ≡ as_data) → Reached A y
          go (yes s) = h.alive y j (inl s)
          go (no s) = let a = v.1 in let b = v.2 in h.alive y j (inr (omega arith))

  pub sound_exactly : (sound_of ws ≡ true) ↔ Sound ws
  sound_exactly = (test_sound, sound_test)

  -- OF A SOUND TABLE as many data slots are reached as there are, whatever their keys: so they may be counted in any order
  pub counted_data : sound_of ws ≡ true → (low high : ℕ)
      → length (reached_of ws (want as_data as_data low high)) ≡ length (picked (asked ws (want as_data as_data low high)) (slots_of ws))
  unfolding asked
  counted_data e low high =
      let w = want as_data as_data low high in
      let t = rooted e in
      let f : ℕ → Bool = asked ws w in
      let a = pigeon (reached_of ws w) (picked f (slots_of ws)) (list_distinct t w)
      (λ y m. let h = listed_reached t w y m in mem_picked f (slots_of ws) y (in_table e h.1) (rw (ne_eqb y 0 h.0, h.2))) in
      let b = pigeon (picked f (slots_of ws)) (reached_of ws w) (picked_distinct f (slots_of ws))
      (λ y m.
      let i = picked_mem f (slots_of ws) y m in
      let p = simp tests at i.1 in
      let v = wanted_is ws w y p.1 in
      let c = v.0 in
      let d = v.1 in
      reached_listed t w y (eqb-false y 0 (not-true (eqb y 0) p.0)) (all_reached e y i.0 (omega arith) (omega arith)) p.1) in
      omega arith
