-- The test of a tree: where it is true there is one, of that depth; and a sound table passes it.
-- Assumes nothing.
use mathlib.Core.Path.{◌≡◌, refl, sym, ap}
use mathlib.Core.Bool.{Bool, true, false, not, ◌&&◌, ◌||◌, false≢true}
use mathlib.Core.List.{List, [], ◌∷◌}
use mathlib.Core.Logic.{⊎_elim, ◌≢◌}
use Prim.Native.Nat.{ℕ, zero, suc, ◌+◌, ◌≤◌, ◌<◌}
use native.Mathlib.Omega.{arith}
use native.Mathlib.Decide.{ℕ_discrete}
use lib.Dec.{eqb}
use lib.ListN.{length}
use borrow.Author.Tests.{eqb-true, eqb-false, eq-eqb, ne_eqb, lt-ltb, not-true}
use Rattle.layout.specs.Layout.{All}
use Rattle.moment.specs.Calendar.{moment_exists, date_exists}
use Rattle.moment.specs.Key.{legal_of, in_range, moment_of, fields_of}
use Rattle.moment.proofs.Tests.{tests, either}
use Rattle.table.specs.Pair.{free, routing, slots_of, key_of, state_of, link_of}
use Rattle.tree.specs.Reach.{Tab, tab_of, Under, top, kid, Reached}
use Rattle.tree.specs.Sound.{Sound, Beside}
use Rattle.tree.specs.Judge.{every, slot_sound, tree_sound}
use Rattle.tree.proofs.Paths.{beside_under, Between, from_sides}
use Rattle.tree.proofs.Pigeon.{Distinct, All_map, few}
use Rattle.tree.proofs.Trees.{Tree, none, node}

-- a test of all slots below n, and the test at each
pub every_at : (f : ℕ → Bool) (n : ℕ) → every f n ≡ true → (i : ℕ) → i < n → f i ≡ true
unfolding every
every_at f zero e i h = absurd (omega arith)
every_at f (suc n) e i h = let p = simp tests at e in go p (ℕ_discrete i n) (every_at f n p.0 i)
  where
    go : (every f n ≡ true) × (f n ≡ true) → Dec (i ≡ n) → (i < n → f i ≡ true) → f i ≡ true
    go p (yes q) r = rw q p.1
    go p (no q) r = r (omega arith)

pub at_every : (f : ℕ → Bool) (n : ℕ) → ((i : ℕ) → i < n → f i ≡ true) → every f n ≡ true
unfolding every
at_every f zero h = refl
at_every f (suc n) h = rw (at_every f n (λ i l. h i (omega arith)), h n (omega arith))

-- what a reached slot has
pub record Fine (ws : List ℕ) (x : ℕ) : Type 0 where
  pub taken : state_of ws x ≢ free
  pub legal : legal_of (key_of ws x) ≡ true
  pub two : state_of ws x ≡ routing → (d : Bool) → link_of ws x d ≢ 0

not_zero : (a : ℕ) → not (eqb a 0) ≡ true → a ≢ 0
not_zero a e = eqb-false a 0 (not-true (eqb a 0) e)

-- no legal key is 0: its year is 1990 at least
pub legal_above : (k : ℕ) → legal_of k ≡ true → 0 < k
unfolding legal_of in_range moment_exists date_exists moment_of fields_of
legal_above k e = go (ℕ_discrete k 0)
  where
    go : Dec (k ≡ 0) → 0 < k
    go (yes z) = absurd (false≢true (rw z at e))
    go (no z) = omega arith

-- the test of a slot, and what it says
slot_fine : (ws : List ℕ) (x lo hi : ℕ) → slot_sound ws x lo hi ≡ true → Fine ws x × (lo < key_of ws x) × (key_of ws x < hi)
unfolding slot_sound
slot_fine ws x lo hi e =
    let p = simp tests at e in
    let q : (state_of ws x ≡ routing) → (link_of ws x true ≢ 0) × (link_of ws x false ≢ 0) = λ r. ⊎_elim
    (λ z. absurd (eqb-false (state_of ws x) routing (not-true (eqb (state_of ws x) routing) z) r))
    (λ z. let w = simp tests at z in (not_zero (link_of ws x true) w.0, not_zero (link_of ws x false) w.1))
    (either _ _ p.1) in
    (record { taken = not_zero (state_of ws x) p.0.0.0.0; legal = p.0.1; two = λ r d. go (q r) d }, p.0.0.0.1, p.0.0.1)
  where
    go : (link_of ws x true ≢ 0) × (link_of ws x false ≢ 0) → (d : Bool) → link_of ws x d ≢ 0
    go h true = h.0
    go h false = h.1

fine_slot : (ws : List ℕ) (x lo hi : ℕ) → Fine ws x → lo < key_of ws x → key_of ws x < hi → slot_sound ws x lo hi ≡ true
unfolding slot_sound
fine_slot ws x lo hi f a b =
    rw (ne_eqb (state_of ws x) free f.taken, lt-ltb lo (key_of ws x) a, lt-ltb (key_of ws x) hi b, f.legal)
    (go (eqb (state_of ws x) routing) refl)
  where
    go : (t : Bool) → eqb (state_of ws x) routing ≡ t → (not t || (not (eqb (link_of ws x true) 0) && not (eqb (link_of ws x false) 0))) ≡ true
    go true e = let h = f.two (eqb-true (state_of ws x) routing e) in rw (ne_eqb (link_of ws x true) 0 (h true), ne_eqb (link_of ws x false) 0 (h false))
    go false e = refl

-- THE TEST OF A TREE says that there is one, of that depth
pub tree_there : (ws : List ℕ) (n x lo hi : ℕ) → tree_sound ws n x lo hi ≡ true → Tree (tab_of ws) (Fine ws) n x lo hi
unfolding tree_sound
tree_there ws zero x lo hi e = none (eqb-true x 0 e)
tree_there ws (suc n) x lo hi e =
    go (eqb x 0) refl e (tree_there ws n (link_of ws x true) lo (key_of ws x)) (tree_there ws n (link_of ws x false) (key_of ws x) hi)
  where
    go : (t : Bool) → eqb x 0 ≡ t
        → (t || (slot_sound ws x lo hi && tree_sound ws n (link_of ws x true) lo (key_of ws x) && tree_sound ws n (link_of ws x false) (key_of ws x) hi)) ≡ true
        → (tree_sound ws n (link_of ws x true) lo (key_of ws x) ≡ true → Tree (tab_of ws) (Fine ws) n (link_of ws x true) lo (key_of ws x))
        → (tree_sound ws n (link_of ws x false) (key_of ws x) hi ≡ true → Tree (tab_of ws) (Fine ws) n (link_of ws x false) (key_of ws x) hi)
        → Tree (tab_of ws) (Fine ws) (suc n) x lo hi
    go true q h l r = none (eqb-true x 0 q)
    go false q h l r =
        let p = simp tests at h in
        let f = slot_fine ws x lo hi p.0.0 in
        node (eqb-false x 0 q) f.0 f.1 f.2 (l p.0.1) (r p.1)

-- and a sound table passes it: fewer slots are passed than there are, since those on a way down are distinct
module _ (ws : List ℕ) (h : Sound ws) where
  abbrev A : Tab
  A = tab_of ws

  sides : Between A
  sides = from_sides h.left h.right

  fine : {x : ℕ} → Reached A x → x ≢ 0 → Fine ws x
  fine {x} r z = record { taken = h.taken x r; legal = h.legal x r z; two = λ e d. h.two x d r e }

  pub reached_in : 0 < slots_of ws → {x : ℕ} → Reached A x → x < slots_of ws
  reached_in l (top e) = rw e l
  reached_in l (kid {p = p} d r e n) = rw (← e) (h.inside p d (reached_in l r))

  -- anc: the slots above
  record Above (anc : List ℕ) (x lo hi : ℕ) : Type 0 where
    reached : x ≢ 0 → Reached A x
    distinct : Distinct anc
    within : All (λ a. a < slots_of ws) anc
    apart : All (λ a. (y : ℕ) → x ≢ 0 → Under A x y → a ≢ y) anc
    low : (y : ℕ) → x ≢ 0 → Under A x y → lo < key_of ws y
    high : (y : ℕ) → x ≢ 0 → Under A x y → key_of ws y < hi

  module _ (some : 0 < slots_of ws) where
    -- one slot further down
    child : (anc : List ℕ) (x lo hi : ℕ) → Above anc x lo hi → x ≢ 0 → (d : Bool) (low high : ℕ)
        → ((y : ℕ) → Beside A x d y → (low < key_of ws y) × (key_of ws y < high)) → Above (x ∷ anc) (link_of ws x d) low high
    child anc x lo hi a z d low high f =
        record {
          reached = λ m. kid d (a.reached z) refl m;
          distinct = (All_map (λ b. (y : ℕ) → x ≢ 0 → Under A x y → b ≢ y) (λ b. b ≢ x) anc (λ b g. g x z (top refl)) a.apart, a.distinct);
          within = (reached_in some (a.reached z), a.within);
          apart = (
            (λ y m u e. (sides x y d (a.reached z) (m, u)).0 (ap (key_of ws) (sym e))),
            All_map (λ b. (y : ℕ) → x ≢ 0 → Under A x y → b ≢ y) (λ b. (y : ℕ) → link_of ws x d ≢ 0 → Under A (link_of ws x d) y → b ≢ y) anc
                (λ b g y m u. g y z (beside_under x d (m, u))) a.apart,
          );
          low = λ y m u. (f y (m, u)).0;
          high = λ y m u. (f y (m, u)).1;
        }

    judged : (n : ℕ) (anc : List ℕ) (x lo hi : ℕ) → Above anc x lo hi → slots_of ws ≤ length anc + n → tree_sound ws n x lo hi ≡ true
    unfolding tree_sound
    judged zero anc x lo hi a l = go (ℕ_discrete x 0)
      where
        go : Dec (x ≡ 0) → eqb x 0 ≡ true
        go (yes e) = eq-eqb x 0 e
        go (no z) =
            let t = few (slots_of ws) (x ∷ anc)
            (All_map (λ b. (y : ℕ) → x ≢ 0 → Under A x y → b ≢ y) (λ b. b ≢ x) anc (λ b g. g x z (top refl)) a.apart, a.distinct)
            (reached_in some (a.reached z), a.within) in
            absurd (omega arith)
    judged (suc n) anc x lo hi a l =
        go (ℕ_discrete x 0) (λ b. judged n (x ∷ anc) (link_of ws x true) lo (key_of ws x) b (omega arith))
        (λ b. judged n (x ∷ anc) (link_of ws x false) (key_of ws x) hi b (omega arith))
      where
        go : Dec (x ≡ 0) → (Above (x ∷ anc) (link_of ws x true) lo (key_of ws x) → tree_sound ws n (link_of ws x true) lo (key_of ws x) ≡ true)
            → (Above (x ∷ anc) (link_of ws x false) (key_of ws x) hi → tree_sound ws n (link_of ws x false) (key_of ws x) hi ≡ true)
            → (eqb x 0 || (slot_sound ws x lo hi && tree_sound ws n (link_of ws x true) lo (key_of ws x) && tree_sound ws n (link_of ws x false) (key_of ws x) hi)) ≡ true
        go (yes e) f g = rw (eq-eqb x 0 e)
        go (no z) f g =
            let r = a.reached z in
            rw (
              ne_eqb x 0 z,
              fine_slot ws x lo hi (fine r z) (a.low x z (top refl)) (a.high x z (top refl)),
              f (child anc x lo hi a z true lo (key_of ws x) (λ y b. (a.low y z (beside_under x true b), h.left x y r b))),
              g (child anc x lo hi a z false (key_of ws x) hi (λ y b. (h.right x y r b, a.high y z (beside_under x false b)))),
            )

    from_root : Above (0 ∷ []) (link_of ws 0 true) 0 (key_of ws 0)
    from_root =
        record {
          reached = λ m. kid true (top refl) refl m;
          distinct = (tt, tt);
          within = (some, tt);
          apart = ((λ y m u e. let b = h.left 0 y (top refl) (m, u) in let q = ap (key_of ws) e in omega arith), tt);
          low = λ y m u. legal_above (key_of ws y) (h.legal y (beside_under 0 true (m, u)) (λ e. let b = h.left 0 y (top refl) (m, u) in let q = ap (key_of ws) e in omega arith));
          high = λ y m u. h.left 0 y (top refl) (m, u);
        }

    -- A SOUND TABLE'S TREE, at every depth from its slots without the root on
    pub tree_passes : (n : ℕ) → slots_of ws ≤ suc n → tree_sound ws n (link_of ws 0 true) 0 (key_of ws 0) ≡ true
    tree_passes n l = judged n (0 ∷ []) (link_of ws 0 true) 0 (key_of ws 0) from_root (omega arith)
