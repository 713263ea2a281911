-- The shape of the table (A1 to A5) outlives each kind of store, and what each does to the set. Assumes nothing.
use mathlib.Core.Path.{◌≡◌, refl, sym, ap, ap₂, ◌∙◌}
use mathlib.Core.Bool.{Bool, false, cond, true≢false}
use mathlib.Core.Logic.{◌⊎◌, inl, inr, ⊎_elim, ◌≢◌}
use Prim.Native.Nat.{ℕ, suc, ◌≤◌, ◌<◌}
use native.Mathlib.Omega.{arith}
use native.Mathlib.Decide.{ℕ_discrete}
use lib.Dec.{ltb, eqb}
use borrow.Author.Tests.{lt-ltb, eq-eqb, ne_eqb}
use Rattle.tree.specs.Reach.{Tab, Reached, Has}
use Rattle.tree.specs.Walk.{dir, Way, Edge}
use Rattle.tree.proofs.Paths.{before, way_reached}
use Rattle.protocol.proofs.Paths.Shape.{Live, Shape, reached_some, unique_parent, unique_key, absent}
use Rattle.protocol.proofs.Paths.Stores.{Spot, spot, Stated, Bypass, Append, back, still_on, still_reached, keep_on, g_reached, v_reached, lost, stay_reached, live_out, not_new, new_some, p_old, kept_on, kept_reached, f_reached, new_reached}

-- an edge seen from the table after the store
pub move_edge : {A B : Tab} {p : ℕ} {d : Bool} {y : ℕ} → B.key y ≡ A.key y → B.key p ≡ A.key p → (Way A (A.key y) p → Way B (A.key y) p) → Edge A p d y → Edge B p d y
move_edge {A} {B} {p} {d} {y} e f g h = record {
  apart = rw (e, f) h.apart;
  side = ap₂ ltb e f ∙ h.side;
  way = rw e (g h.way);
}

-- recolour and kill
module _ {A B : Tab} {s v : ℕ} (b : Stated A B s v) {rho : ℕ → ℕ} (h : Shape A rho) where
  by_slot : (P : ℕ → ℕ → Type 0) (x : ℕ) → P s v → (x ≢ s → P x (A.state x)) → P x (B.state x)
  by_slot P x p q = go (ℕ_discrete x s)
    where
      go : Dec (x ≡ s) → P x (B.state x)
      go (yes e) = rw (e, b.there) p
      go (no e) = rw (b.states x e) (q e)

  pub stated_some : (x : ℕ) → B.state x ≢ 0 → A.state x ≢ 0
  stated_some x = by_slot (λ y z. z ≢ 0 → A.state y ≢ 0) x (λ n e. let l = b.live in omega arith) (λ d n. n)

  pub some_stated : (x : ℕ) → A.state x ≢ 0 → B.state x ≢ 0
  some_stated x n = by_slot (λ y z. z ≢ 0) x (λ e. let l = b.range in omega arith) (λ d. n)

  pub stated_live : (x : ℕ) → Live B x → Live A x
  stated_live x = by_slot (λ y z. (0 < z) × (z < 3) → Live A y) x (λ l. b.live) (λ d l. l)

  pub shape_stated : Shape B rho
  shape_stated = record {
    cap = h.cap;
    capped = h.capped;
    small = λ x. by_slot (λ y z. z ≤ 3) x b.range.1 (λ d. h.small x);
    root_data = b.states 0 (λ e. b.not_root (sym e)) ∙ h.root_data;
    root_right = b.still.links 0 false ∙ h.root_right;
    highest = λ x n m. rw (b.still.keys x, b.still.keys 0) (h.highest x (stated_some x n) m);
    edge = λ p y d r e n. move_edge (b.still.keys y) (b.still.keys p) (λ w. still_on b.still w)
        (h.edge p y d (still_reached (back b.still) r) (sym (b.still.links p d) ∙ e) n);
    alive = λ x l. still_reached b.still (h.alive x (stated_live x l));
    rank = λ x y d n e m. let r = h.rank x y d (stated_some x n) (sym (b.still.links x d) ∙ e) m in (some_stated y r.0, r.1);
    bare = λ x d. by_slot (λ y z. z ≡ 0 → B.link y d ≡ 0) x (λ e. let l = b.range in absurd (omega arith)) (λ m e. b.still.links x d ∙ h.bare x d e);
    two = λ x d. by_slot (λ y z. z ≡ 2 → B.link y d ≢ 0) x (λ e. rw (b.still.links s d) (b.two d e)) (λ m e. rw (b.still.links x d) (h.two x d e));
  }

  -- the set: but for the key of s it stays; that key is in exactly where s is data
  pub stated_set : (k : ℕ) → k ≢ A.key s → Has A k → Has B k
  stated_set k d (y, n, t, e, r) =
      (y, n, b.states y (λ z. d (sym e ∙ ap A.key z)) ∙ t, b.still.keys y ∙ e, still_reached b.still r)

  pub set_stated : (k : ℕ) → k ≢ A.key s → Has B k → Has A k
  set_stated k d (y, n, t, e, r) =
      let e' : A.key y ≡ k = sym (b.still.keys y) ∙ e in
      (y, n, sym (b.states y (λ z. d (sym e' ∙ ap A.key z))) ∙ t, e', still_reached (back b.still) r)

  pub stated_in : v ≡ 1 → Has B (A.key s)
  stated_in e = (s, b.not_root, b.there ∙ e, b.still.keys s, still_reached b.still (h.alive s b.live))

  pub was_in : A.state s ≡ 1 → Has A (A.key s)
  was_in e = (s, b.not_root, e, refl, h.alive s b.live)

  pub only_in : Has A (A.key s) → A.state s ≡ 1
  only_in (y, n, t, e, r) = rw (unique_key h r (h.alive s b.live) e) at t

  pub stated_out : v ≢ 1 → Has B (A.key s) → ⊥
  stated_out n (y, m, t, e, r) =
      let e' : A.key y ≡ A.key s = sym (b.still.keys y) ∙ e in
      let z : y ≡ s = unique_key h (still_reached (back b.still) r) (h.alive s b.live) e' in
      n (sym b.there ∙ ap B.state (sym z) ∙ t)

-- bypass and cut
module _ {A B : Tab} {g : ℕ} {d : Bool} {v c w : ℕ} (b : Bypass A B g d v c w) {rho : ℕ → ℕ} (h : Shape A rho) where
  -- the new edge
  new_edge : c ≢ 0 → Edge A g d c
  new_edge m =
      let q = b.from m in
      let e = h.edge v c q.0 (v_reached b h) q.1 m in
      ⊎_elim (λ z. absurd (b.some (sym z)))
      (λ u.
      let y = unique_parent h (dir A (A.key c) u.0) d (way_reached u.1) (g_reached b h) u.3 b.was b.some in
      let i : Way A (A.key c) g = rw y.0 at u.1 in
      let j : A.key c ≢ A.key g = rw y.0 at u.2 in
      record { apart = j; side = ap (dir A (A.key c)) (sym y.0) ∙ y.1; way = i })
      (before e.way)

  g_some : A.state g ≢ 0
  g_some e = let l = b.live in omega arith

  by_link : (P : ℕ → Bool → ℕ → Type 0) (x : ℕ) (s : Bool) → P g d c → ((Spot x s g d → ⊥) → P x s (A.link x s)) → P x s (B.link x s)
  by_link P x s p q = go (spot x s g d)
    where
      go : Dec (Spot x s g d) → P x s (B.link x s)
      go (yes e) = rw (e.0, e.1, b.there) p
      go (no e) = rw (b.rest x s e) (q e)

  pub shape_bypass : Shape B rho
  shape_bypass = record {
    cap = h.cap;
    capped = h.capped;
    small = λ x. rw (b.states x) (h.small x);
    root_data = b.states 0 ∙ h.root_data;
    root_right = b.rest 0 false (λ e. b.some (sym b.was ∙ sym (ap₂ A.link e.0 e.1) ∙ h.root_right)) ∙ h.root_right;
    highest = λ x n m. rw (b.keys x, b.keys 0) (h.highest x (rw (b.states x) at n) m);
    edge = λ p y a r e n.
        let l = lost b h r in
        move_edge (b.keys y) (b.keys p) (λ i. keep_on b l.1 l.2 i)
        (by_link (λ x s z. Reached A x → z ≡ y → Edge A x s y) p a (λ i j. rw j at (new_edge (rw j n))) (λ o i j. h.edge p y a i j n) l.0 e);
    alive = λ x l.
        let l' : Live A x = rw (b.states x) at l in
        let o = live_out b h l' in
        stay_reached b h (h.alive x l') o.0 o.1;
    rank = λ x y a n e m.
        rw (b.states y)
        (by_link (λ q s z. A.state q ≢ 0 → z ≡ y → (A.state y ≢ 0) × (rho q < rho y)) x a
        (λ i j.
        let u = b.from (rw j m) in
        let r = h.rank g v d g_some b.was b.some in
        let r' = h.rank v y u.0 r.0 (u.1 ∙ j) m in
        (r'.0, omega arith))
        (λ o i j. h.rank x y a i j m) (rw (b.states x) at n) e);
    bare = λ x a. rw (b.states x) (by_link (λ q s z. A.state q ≡ 0 → z ≡ 0) x a (λ e. absurd (g_some e)) (λ o e. h.bare x a e));
    two = λ x a.
        rw (b.states x) (by_link (λ q s z. A.state q ≡ 2 → z ≢ 0) x a (λ e. ⊎_elim (λ m. m) (λ m. absurd (omega arith)) b.two) (λ o e. h.two x a e));
  }

  pub bypass_set : (k : ℕ) → Has A k → Has B k
  bypass_set k (y, n, t, e, r) =
      let o = live_out b h {y = y} (omega arith) in
      (y, n, b.states y ∙ t, b.keys y ∙ e, stay_reached b h r o.0 o.1)

  pub set_bypass : (k : ℕ) → Has B k → Has A k
  set_bypass k (y, n, t, e, r) = (y, n, sym (b.states y) ∙ t, sym (b.keys y) ∙ e, (lost b h r).0)

-- link-new: the new slot's rank is above all
abbrev pub raise : (ℕ → ℕ) → ℕ → ℕ → ℕ → ℕ
raise rho f m x = cond (eqb x f) m (rho x)

pub raise_there : (rho : ℕ → ℕ) (f m : ℕ) → raise rho f m f ≡ m
raise_there rho f m = rw (eq-eqb f f refl)

pub raise_rest : (rho : ℕ → ℕ) (f m x : ℕ) → x ≢ f → raise rho f m x ≡ rho x
raise_rest rho f m x n = rw (ne_eqb x f n)

module _ {A B : Tab} {p : ℕ} {d : Bool} {f k : ℕ} (b : Append A B p d f k) {rho : ℕ → ℕ} (h : Shape A rho) where
  abbrev pub new_rho : ℕ → ℕ
  new_rho = raise rho f (suc h.cap)

  at_new : (P : ℕ → Type 0) (x : ℕ) → P f → (x ≢ f → P x) → P x
  at_new P x p q = go (ℕ_discrete x f)
    where
      go : Dec (x ≡ f) → P x
      go (yes e) = rw e p
      go (no e) = q e

  old_some : (x : ℕ) → x ≢ f → B.state x ≢ 0 → A.state x ≢ 0
  old_some x o n = rw (b.states x o) at n

  some_old : (x : ℕ) → A.state x ≢ 0 → B.state x ≢ 0
  some_old x n = rw (b.states x (not_new b h n)) n

  -- the links of B: the new one, none of the new slot, and the old ones
  link_cases : (x y : ℕ) (a : Bool) → B.link x a ≡ y → y ≢ 0 → (Spot x a p d × (y ≡ f)) ⊎ ((x ≢ f) × (A.link x a ≡ y))
  link_cases x y a e n = go (spot x a p d) (ℕ_discrete x f)
    where
      go : Dec (Spot x a p d) → Dec (x ≡ f) → (Spot x a p d × (y ≡ f)) ⊎ ((x ≢ f) × (A.link x a ≡ y))
      go (yes z) i = inl (z, sym e ∙ ap₂ B.link z.0 z.1 ∙ b.there)
      go (no z) (yes i) = absurd (n (sym e ∙ ap (λ (o : ℕ). B.link o a) i ∙ b.none a))
      go (no z) (no i) = inr (i, sym (b.rest x a i z) ∙ e)

  p_some : A.state p ≢ 0
  p_some e = let l = b.live in omega arith

  zero_old : 0 ≢ f
  zero_old e = new_some b h (sym e)

  raised : (x : ℕ) → x ≢ f → new_rho x ≡ rho x
  raised x o = raise_rest rho f (suc h.cap) x o

  edge_new : Edge B p d f
  edge_new = record {
    apart = rw (b.key_there, b.keys p (p_old b h)) b.apart;
    side = ap₂ ltb b.key_there (b.keys p (p_old b h)) ∙ b.side;
    way = rw b.key_there (kept_on b h (λ e. let r = h.root_data in omega arith) b.way);
  }

  pub shape_append : Shape B new_rho
  shape_append = record {
    cap = suc h.cap;
    capped = λ x. at_new (λ y. new_rho y ≤ suc h.cap) x (rw (raise_there rho f (suc h.cap)) (omega arith)) (λ o. rw (raised x o) (omega (arith, h.capped x)));
    small = λ x. at_new (λ y. B.state y ≤ 3) x (rw b.state_there (omega arith)) (λ o. rw (b.states x o) (h.small x));
    root_data = b.states 0 zero_old ∙ h.root_data;
    root_right = b.rest 0 false zero_old (λ e.
        let q : dir A k 0 ≡ false = ap (dir A k) e.0 ∙ b.side ∙ sym e.1 in
        true≢false (sym (lt-ltb k (A.key 0) b.low) ∙ q)) ∙ h.root_right;
    highest = λ x. at_new (λ y. B.state y ≢ 0 → y ≢ 0 → B.key y < B.key 0) x
        (λ n m. rw (b.key_there, b.keys 0 zero_old) b.low)
        (λ o n m. rw (b.keys x o, b.keys 0 zero_old) (h.highest x (old_some x o n) m));
    edge = λ q y a r e n. ⊎_elim
        (λ z. rw (z.0.0, z.0.1, z.1) edge_new)
        (λ z. ⊎_elim
        (λ r'.
        let g = h.edge q y a r' z.1 n in
        let o = not_new b h (h.rank q y a (reached_some h r') z.1 n).0 in
        move_edge (b.keys y o) (b.keys q z.0) (λ i. kept_on b h (λ e. let u = h.root_data in omega arith) i) g)
        (λ i. absurd (z.0 i))
        (new_reached b h r))
        (link_cases q y a e n);
    alive = λ x. at_new (λ y. Live B y → Reached B y) x (λ l. f_reached b h) (λ o l. kept_reached b h (h.alive x (rw (b.states x o) at l)));
    rank = λ x y a n e m. ⊎_elim
        (λ z. rw (z.0.0, z.1) (
          (λ i. let j = b.state_there in omega arith),
          rw (raised p (p_old b h), raise_there rho f (suc h.cap)) (omega (arith, h.capped p)),
        ))
        (λ z.
        let r = h.rank x y a (old_some x z.0 n) z.1 m in
        (some_old y r.0, rw (raised x z.0, raised y (not_new b h r.0)) r.1))
        (link_cases x y a e m);
    bare = λ x a. at_new (λ y. B.state y ≡ 0 → B.link y a ≡ 0) x (λ e. b.none a)
        (λ o e. b.rest x a o (λ z. p_some (ap A.state (sym z.0) ∙ sym (b.states x o) ∙ e)) ∙ h.bare x a (sym (b.states x o) ∙ e));
    two = λ x a. at_new (λ y. B.state y ≡ 2 → B.link y a ≢ 0) x (λ e. let j = b.state_there in absurd (omega arith))
        (λ o e. let t = h.two x a (sym (b.states x o) ∙ e) in
        rw (b.rest x a o (λ z. t (ap₂ A.link z.0 z.1 ∙ b.empty))) t);
  }

  -- the set gains k, which was not in
  pub append_new : Has A k → ⊥
  append_new (y, n, t, e, r) = absent h b.way (λ z. b.apart (sym z)) (ap (A.link p) b.side ∙ b.empty) r e

  pub append_in : Has B k
  append_in = (f, new_some b h, b.state_there, b.key_there, f_reached b h)

  pub append_set : (j : ℕ) → Has A j → Has B j
  append_set j (y, n, t, e, r) =
      let o = not_new b h (reached_some h r) in
      (y, n, b.states y o ∙ t, b.keys y o ∙ e, kept_reached b h r)

  pub set_append : (j : ℕ) → j ≢ k → Has B j → Has A j
  set_append j d (y, n, t, e, r) =
      let o : y ≢ f = λ z. d (sym e ∙ ap B.key z ∙ b.key_there) in
      (y, n, sym (b.states y o) ∙ t, sym (b.keys y o) ∙ e, ⊎_elim (λ u. u) (λ u. absurd (o u)) (new_reached b h r))
