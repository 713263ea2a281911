-- A tree with bounds, at most so deep: what the executable test finds. What hangs in it keeps the bounds, and the walk in
-- it is no longer than it is deep.
-- Assumes nothing.
use mathlib.Core.Path.{◌≡◌, refl, sym, ◌∙◌}
use mathlib.Core.Bool.{Bool, true, false}
use mathlib.Core.Logic.{◌⊎◌, inl, inr, ⊎_elim, ◌≢◌}
use Prim.Native.Nat.{ℕ, suc, ◌≤◌, ◌<◌}
use native.Mathlib.Omega.{arith}
use borrow.Author.Tests.{lt-ltb, le-ltb}
use Rattle.tree.specs.Reach.{Tab, Under, top, kid, Reached}
use Rattle.tree.specs.Sound.{Beside}
use Rattle.tree.specs.Walk.{dir, On, here, down, Way}
use Rattle.tree.proofs.Paths.{under_split, Between}

-- what hangs at slot x (0: nothing), at most n deep, has P, and its keys lie between lo and hi, in order
pub data Tree (A : Tab) (P : ℕ → Type 0) : ℕ → ℕ → ℕ → ℕ → Type 0 where
  none : {n x lo hi : ℕ} → x ≡ 0 → Tree A P n x lo hi
  node : {n x lo hi : ℕ} → x ≢ 0 → P x → lo < A.key x → A.key x < hi
      → Tree A P n (A.link x true) lo (A.key x) → Tree A P n (A.link x false) (A.key x) hi → Tree A P (suc n) x lo hi

-- a part of a tree, within its bounds
record Part (A : Tab) (P : ℕ → Type 0) (y lo hi : ℕ) : Type 0 where
  deep : ℕ
  low : ℕ
  high : ℕ
  tree : Tree A P deep y low high
  some : y ≢ 0
  above : lo ≤ low
  under : high ≤ hi

side : {A : Tab} {P : ℕ → Type 0} {n x lo hi : ℕ} (d : Bool) → Tree A P n x lo hi → x ≢ 0 → A.link x d ≢ 0 → Part A P (A.link x d) lo hi
side d (none e) z m = absurd (z e)
side {A} {lo = lo} true (node {n = n} {x = x} z p a b l r) z' m =
    record { deep = n; low = lo; high = A.key x; tree = l; some = m; above = omega arith; under = omega arith }
side {A} {hi = hi} false (node {n = n} {x = x} z p a b l r) z' m =
    record { deep = n; low = A.key x; high = hi; tree = r; some = m; above = omega arith; under = omega arith }

part : {A : Tab} {P : ℕ → Type 0} {n x lo hi y : ℕ} → Tree A P n x lo hi → x ≢ 0 → Under A x y → Part A P y lo hi
part {A} {P} {n} {x} {lo} {hi} t z (top e) =
    rw e (record { deep = n; low = lo; high = hi; tree = t; some = z; above = omega arith; under = omega arith })
part {A} {P} {n} {x} {lo} {hi} t z (kid {y = y} {p = q} d u e m) =
    let s = part t z u in
    let w = side d s.tree s.some (λ i. m (sym e ∙ i)) in
    let a = s.above in
    let b = s.under in
    let c = w.above in
    let f = w.under in
    rw (← e) (record { deep = w.deep; low = w.low; high = w.high; tree = w.tree; some = w.some; above = omega arith; under = omega arith })

-- what a tree says of its top
at_top : {A : Tab} {P : ℕ → Type 0} {n x lo hi : ℕ} → Tree A P n x lo hi → x ≢ 0 → P x × (lo < A.key x) × (A.key x < hi)
at_top (none e) z = absurd (z e)
at_top (node z p a b l r) z' = (p, a, b)

module _ {A : Tab} {P : ℕ → Type 0} {n x lo hi y : ℕ} (t : Tree A P n x lo hi) (z : x ≢ 0) (u : Under A x y) where
  pub has : P y
  has = let s = part t z u in (at_top s.tree s.some).0

  pub bounds : (lo < A.key y) × (A.key y < hi)
  bounds =
      let s = part t z u in
      let h = at_top s.tree s.some in
      let a = s.above in
      let b = s.under in
      (omega arith, omega arith)

-- what hangs on a side of a slot of the tree
beside : {A : Tab} {P : ℕ → Type 0} {n x lo hi y : ℕ} (d : Bool) → Tree A P n x lo hi → x ≢ 0 → Beside A x d y → (A.key y ≢ A.key x) × (dir A (A.key y) x ≡ d)
beside d (none e) z b = absurd (z e)
beside {A} {y = y} true (node {x = x} z p a c l r) z' b =
    let h = bounds l b.0 b.1 in
    (omega arith, lt-ltb (A.key y) (A.key x) h.1)
beside {A} {y = y} false (node {x = x} z p a c l r) z' b =
    let h = bounds r b.0 b.1 in
    (omega arith, le-ltb (A.key y) (A.key x) (omega arith))

-- THE WHOLE: the root is slot 0, which as a link means nothing, so it stands outside; its left link holds the tree
pub record Rooted (A : Tab) (P : ℕ → Type 0) (n : ℕ) : Type 0 where
  pub tree : Tree A P n (A.link 0 true) 0 (A.key 0)
  pub right : A.link 0 false ≡ 0

module _ {A : Tab} {P : ℕ → Type 0} {n : ℕ} (t : Rooted A P n) where
  -- what is reached is the root, or in the tree
  pub reach_split : {y : ℕ} → Reached A y → (y ≡ 0) ⊎ Beside A 0 true y
  reach_split {y} r = ⊎_elim inl (λ s. inr (go s.0 s.1)) (under_split r)
    where
      go : (d : Bool) → Beside A 0 d y → Beside A 0 true y
      go true b = b
      go false b = absurd (b.0 t.right)

  pub reached_has : {y : ℕ} → Reached A y → y ≢ 0 → P y
  reached_has r z = ⊎_elim (λ e. absurd (z e)) (λ b. has t.tree b.0 b.1) (reach_split r)

  pub reached_bounds : {y : ℕ} → Reached A y → y ≢ 0 → (0 < A.key y) × (A.key y < A.key 0)
  reached_bounds r z = ⊎_elim (λ e. absurd (z e)) (λ b. bounds t.tree b.0 b.1) (reach_split r)

  root_side : {y : ℕ} (d : Bool) → Beside A 0 d y → (A.key y ≢ A.key 0) × (dir A (A.key y) 0 ≡ d)
  root_side {y} true b = let h = bounds t.tree b.0 b.1 in (omega arith, lt-ltb (A.key y) (A.key 0) h.1)
  root_side false b = absurd (b.0 t.right)

  pub tree_between : Between A
  tree_between x y d r b = ⊎_elim
      (λ e. rw e (root_side d (rw e at b)))
      (λ s. let p = part t.tree s.0 s.1 in beside d p.tree p.some b)
      (reach_split r)

-- THE LENGTH OF A WALK

-- how many slots a walk passes
abbrev pub slots_on : {A : Tab} {k y x : ℕ} → On A k y x → ℕ
slots_on here = 1
slots_on (down h n t) = suc (slots_on t)

-- the side that a walk takes
taken : {A : Tab} {P : ℕ → Type 0} {n x lo hi : ℕ} (d : Bool) → Tree A P n x lo hi → x ≢ 0
    → (m : ℕ) × (low : ℕ) × (high : ℕ) × Tree A P m (A.link x d) low high × (n ≡ suc m)
taken d (none e) z = absurd (z e)
taken {A} {lo = lo} true (node {n = n} {x = x} z p a b l r) z' = (n, lo, A.key x, l, refl)
taken {A} {hi = hi} false (node {n = n} {x = x} z p a b l r) z' = (n, A.key x, hi, r, refl)

pub short : {A : Tab} {P : ℕ → Type 0} {k y x n lo hi : ℕ} → Tree A P n x lo hi → x ≢ 0 → (w : On A k y x) → slots_on w ≤ n
short t z here = let s = taken true t z in let e = s.4 in omega arith
short {A} {k = k} t z (down {x = x} h m w) =
    let s = taken (dir A k x) t z in
    let e = s.4 in
    let i = short s.3 m w in
    omega arith

-- from the root one slot more
pub short_way : {A : Tab} {P : ℕ → Type 0} {n k y : ℕ} → Rooted A P n → (w : Way A k y) → slots_on w ≤ suc n
short_way t here = omega arith
short_way {A} {P} {n} {k} {y} t (down h m w) = go (dir A k 0) m w
  where
    go : (d : Bool) → A.link 0 d ≢ 0 → (w : On A k y (A.link 0 d)) → suc (slots_on w) ≤ suc n
    go true m w = let i = short t.tree m w in omega arith
    go false m w = absurd (m t.right)
