-- The walk towards a key and what hangs where, over any table: the path form of order ("what is linked is found by its
-- own key") follows from the bounds set by ancestors and gives them back; unique parents, unique keys, one walk to each key.
-- Assumes nothing.
use mathlib.Core.Path.{◌≡◌, refl, sym, ap, ◌∙◌}
use mathlib.Core.Bool.{Bool, true, false}
use mathlib.Core.Logic.{◌⊎◌, inl, inr, ⊎_elim, ◌≢◌}
use Prim.Native.Nat.{ℕ, ◌<◌}
use native.Mathlib.Omega.{arith}
use borrow.Author.Tests.{ltb-true, ltb-false, lt-ltb, le-ltb}
use Rattle.tree.specs.Reach.{Tab, Under, top, kid, Reached, Has}
use Rattle.tree.specs.Sound.{Beside}
use Rattle.tree.specs.Walk.{dir, next, On, here, down, Way, Seen, Ordered}

-- WHAT HANGS WHERE

pub under_trans : {A : Tab} {x y z : ℕ} → Under A x y → Under A y z → Under A x z
under_trans u (top e) = rw e u
under_trans u (kid d v e n) = kid d (under_trans u v) e n

pub beside_under : {A : Tab} (x : ℕ) (d : Bool) {y : ℕ} → Beside A x d y → Under A x y
beside_under x d b = under_trans (kid d (top refl) refl b.0) b.1

-- what hangs at x is x, or hangs on one of its sides
pub under_split : {A : Tab} {x y : ℕ} → Under A x y → (y ≡ x) ⊎ ((d : Bool) × Beside A x d y)
under_split (top e) = inl e
under_split {A} {x} (kid {y = y} {p = p} d u e n) = ⊎_elim
    (λ q.
    let f : A.link x d ≡ y = ap (λ (z : ℕ). A.link z d) (sym q) ∙ e in
    inr (d, ((λ z. n (sym f ∙ z)), top (sym f))))
    (λ s. inr (s.0, (s.1.0, kid d s.1.1 e n)))
    (under_split u)

pub under_some : {A : Tab} {x y : ℕ} → Under A x y → x ≢ 0 → y ≢ 0
under_some (top e) z = rw e z
under_some (kid d u e n) z = n

-- WALKS

pub via : {A : Tab} {k y x : ℕ} (z : ℕ) → k ≢ A.key x → next A k x ≡ z → z ≢ 0 → On A k y z → On A k y x
via {A} {k} {y} {x} z h e n t = down h (rw e n) (rw e t)

pub on_trans : {A : Tab} {k y z x : ℕ} → On A k y x → On A k z y → On A k z x
on_trans here t = t
on_trans (down a b s) t = down a b (on_trans s t)

pub snoc : {A : Tab} {k x : ℕ} (p u : ℕ) → On A k p x → k ≢ A.key p → next A k p ≡ u → u ≢ 0 → On A k u x
snoc p u s h e n = on_trans s (via u h e n here)

-- of two slots on one walk, one comes first
pub linear : {A : Tab} {k y z x : ℕ} → On A k y x → On A k z x → On A k z y ⊎ On A k y z
linear here t = inl t
linear (down a b s) here = inr (down a b s)
linear (down a b s) (down a' b' t) = linear s t

-- where the walk stops nothing is beyond
pub stop_key : {A : Tab} {k x y : ℕ} → A.key x ≡ k → On A k y x → x ≡ y
stop_key e here = refl
stop_key e (down h n t) = absurd (h (sym e))

pub stop_none : {A : Tab} {k x y : ℕ} → next A k x ≡ 0 → On A k y x → x ≡ y
stop_none e here = refl
stop_none e (down h n t) = absurd (n e)

pub step_on : {A : Tab} {k x y : ℕ} (z : ℕ) → next A k x ≡ z → On A k y x → (x ≡ y) ⊎ On A k y z
step_on z e here = inl refl
step_on {A} {k} {x} {y} z e (down h n t) = inr (rw e at t)

-- the slot before the last one
pub before : {A : Tab} {k y x : ℕ} → On A k y x → (x ≡ y) ⊎ ((q : ℕ) × On A k q x × (k ≢ A.key q) × (next A k q ≡ y))
before here = inl refl
before {A} {k} {y = y} (down {x = x} h n t) = inr (⊎_elim (λ e. (x, here, h, e)) (λ u. (u.0, down h n u.1, u.2, u.3)) (before t))

-- a walk goes where something hangs
pub on_under : {A : Tab} {k y x : ℕ} → On A k y x → Under A x y
on_under here = top refl
on_under {A} {k} (down {x = x} h n t) = beside_under x (dir A k x) (n, on_under t)

pub way_reached : {A : Tab} {k y : ℕ} → Way A k y → Reached A y
way_reached w = on_under w

-- two walks to slots with the wanted key end on one slot
pub same_stop : {A : Tab} {k x y z : ℕ} → A.key y ≡ k → A.key z ≡ k → On A k y x → On A k z x → y ≡ z
same_stop e f s t = ⊎_elim (λ u. stop_key e u) (λ u. sym (stop_key f u)) (linear s t)

-- BOUNDS SET BY ANCESTORS: what hangs on a side of a reached slot has a key on that side of its key

abbrev pub Between : Tab → Type 0
Between A = (x y : ℕ) (d : Bool) → Reached A x → Beside A x d y → (A.key y ≢ A.key x) × (dir A (A.key y) x ≡ d)

pub from_sides : {A : Tab} → ((x y : ℕ) → Reached A x → Beside A x true y → A.key y < A.key x)
    → ((x y : ℕ) → Reached A x → Beside A x false y → A.key x < A.key y) → Between A
from_sides {A} l r x y true c b = let h = l x y c b in (omega arith, lt-ltb (A.key y) (A.key x) h)
from_sides {A} l r x y false c b = let h = r x y c b in (omega arith, le-ltb (A.key y) (A.key x) (omega arith))

pub left_smaller : {A : Tab} → Between A → (x y : ℕ) → Reached A x → Beside A x true y → A.key y < A.key x
left_smaller {A} h x y c b = ltb-true (A.key y) (A.key x) (h x y true c b).1

pub right_larger : {A : Tab} → Between A → (x y : ℕ) → Reached A x → Beside A x false y → A.key x < A.key y
right_larger {A} h x y c b =
    let t = h x y false c b in
    let n = t.0 in
    let g = ltb-false (A.key y) (A.key x) t.1 in
    omega arith

-- THE PATH FORM FOLLOWS: the walk towards what hangs at a reached slot passes that slot
pub passes : {A : Tab} → Between A → {p y : ℕ} → Reached A p → Under A p y → Way A (A.key y) p
passes h (top e) u = rw e here
passes {A} h {p} {y} (kid {p = q} d r e n) u =
    let b : Beside A q d y = ((λ z. n (sym e ∙ z)), rw e u) in
    let t = h q y d r b in
    snoc q p (passes h r (beside_under q d b)) t.0 (ap (A.link q) t.1 ∙ e) n

pub ordered : {A : Tab} → Between A → Ordered A
ordered {A} h p y d r e n =
    let b : Beside A p d y = ((λ z. n (sym e ∙ z)), top (sym e)) in
    let t = h p y d r b in
    record { apart = t.0; side = t.1; way = passes h r (beside_under p d b) }

-- AND GIVES ALL OF THEM BACK
module _ {A : Tab} (h : Ordered A) where
  -- what is reached is found by its own key
  pub own_way : {y : ℕ} → Reached A y → Way A (A.key y) y
  own_way (top e) = rw e here
  own_way (kid {y = y} {p = p} d r e n) =
      let g = h p y d r e n in
      snoc p y g.way g.apart (ap (A.link p) g.side ∙ e) n

  -- UNIQUE KEYS
  pub unique_key : {y z : ℕ} → Reached A y → Reached A z → A.key y ≡ A.key z → y ≡ z
  unique_key {y} {z} r s e = same_stop e refl (rw e at (own_way r)) (own_way s)

  one_parent : {p q y : ℕ} (d e : Bool) → Reached A p → Reached A q → A.link p d ≡ y → A.link q e ≡ y → y ≢ 0
      → On A (A.key y) q p → p ≡ q
  one_parent {p} {q} {y} d e r s f g n t =
      let a = h p y d r f n in
      let b = h q y e s g n in
      ⊎_elim (λ z. z) (λ u. absurd (b.apart (ap A.key (stop_key refl u))))
      (step_on y (ap (A.link p) a.side ∙ f) t)

  -- UNIQUE PARENTS: links from the root reach each slot at most once
  pub unique_parent : {p q y : ℕ} (d e : Bool) → Reached A p → Reached A q → A.link p d ≡ y → A.link q e ≡ y → y ≢ 0 → (p ≡ q) × (d ≡ e)
  unique_parent {p} {q} {y} d e r s f g n =
      let a = h p y d r f n in
      let b = h q y e s g n in
      let z : p ≡ q = ⊎_elim (λ t. one_parent d e r s f g n t) (λ t. sym (one_parent e d s r g f n t)) (linear a.way b.way) in
      (z, sym a.side ∙ ap (dir A (A.key y)) z ∙ b.side)

  -- the walk to y comes by y's parent, and by all that y hangs at
  pub parent_way : {k p y : ℕ} (d : Bool) → Reached A p → A.link p d ≡ y → y ≢ 0 → Way A k y → Way A k p × (k ≢ A.key p) × (dir A k p ≡ d)
  parent_way {k} {p} {y} d r e n w = ⊎_elim
      (λ z. absurd (n (sym z)))
      (λ u.
      let z = unique_parent (dir A k u.0) d (way_reached u.1) r u.3 e n in
      (rw z.0 at u.1, rw z.0 at u.2, ap (dir A k) (sym z.0) ∙ z.1))
      (before w)

  pub under_way : {k x y : ℕ} → Reached A x → Under A x y → Way A k y → Way A k x
  under_way r (top e) w = rw e at w
  under_way r (kid d u e n) w = under_way r u (parent_way d (under_trans r u) e n w).0

  -- the bounds set by ancestors
  pub between : Between A
  between x y d r b =
      let rz : Reached A (A.link x d) = kid d r refl b.0 in
      let p = parent_way d r refl b.0 (under_way rz b.1 (own_way (under_trans rz b.1))) in
      (p.1, p.2)

  -- a walk that ends at nothing: no reached slot has the key
  pub absent : {k p y : ℕ} → Way A k p → A.key p ≢ k → next A k p ≡ 0 → Reached A y → A.key y ≡ k → ⊥
  absent {k} {p} {y} w a e r f =
      let o : Way A k y = rw f at (own_way r) in
      ⊎_elim (λ t. a (ap A.key (stop_none e t) ∙ f)) (λ t. a (ap A.key (sym (stop_key f t)) ∙ f)) (linear w o)

  -- A KEY IS IN THE SET EXACTLY IF THE WALK FROM THE ROOT TOWARDS IT ENDS ON A DATA SLOT WITH IT (the root's is no frame's)
  pub set_seen : {k : ℕ} → Has A k → Seen A k 0
  set_seen {k} (y, n, s, e, r) = (y, rw e at (own_way r), e, s)

pub seen_set : {A : Tab} {k : ℕ} → k ≢ A.key 0 → Seen A k 0 → Has A k
seen_set {A} {k} l (y, t, e, s) = (y, (λ z. l (sym e ∙ ap A.key z)), s, e, way_reached t)
