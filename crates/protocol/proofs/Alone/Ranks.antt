-- The rank of a slot in a tree: how deep the walk towards its key finds it. It rises along links. Assumes nothing.
use mathlib.Core.Path.{◌≡◌, refl, sym, ap}
use mathlib.Core.Bool.{Bool, true, false, cond}
use mathlib.Core.Logic.{◌⊎◌, inl, inr, ⊎_elim, ◌≢◌}
use Prim.Native.Nat.{ℕ, suc, ◌+◌, ◌≤◌, ◌<◌}
use native.Mathlib.Omega.{arith}
use native.Mathlib.Decide.{ℕ_discrete}
use lib.Dec.{ltb, eqb}
use borrow.Author.Tests.{eq-eqb, ne_eqb, lt-ltb, le-ltb}
use Rattle.moment.proofs.Tests.{by_cases}
use Rattle.tree.specs.Reach.{Tab, Under, top, kid, Reached}
use Rattle.tree.specs.Sound.{Beside}
use Rattle.tree.proofs.Paths.{under_split}
use Rattle.tree.proofs.Trees.{Tree, none, node, bounds, Rooted, reach_split}

unfoldable pub rank_in : {A : Tab} {P : ℕ → Type 0} {n x lo hi : ℕ} → Tree A P n x lo hi → ℕ → ℕ → ℕ
rank_in (none e) m y = m
rank_in {A} (node {x = x} z p a b l r) m y =
    cond (eqb y x) m (cond (ltb (A.key y) (A.key x)) (rank_in l (suc m) y) (rank_in r (suc m) y))

rank_low : {A : Tab} {P : ℕ → Type 0} {n x lo hi : ℕ} (t : Tree A P n x lo hi) (m y : ℕ) → m ≤ rank_in t m y
unfolding rank_in
rank_low (none e) m y = omega arith
rank_low {A} (node {x = x} z p a b l r) m y =
    by_cases (λ v. m ≤ v) (eqb y x) (λ e. omega arith)
    (λ e. by_cases (λ v. m ≤ v) (ltb (A.key y) (A.key x)) (λ f. omega (arith, rank_low l (suc m) y)) (λ f. omega (arith, rank_low r (suc m) y)))

rank_high : {A : Tab} {P : ℕ → Type 0} {n x lo hi : ℕ} (t : Tree A P n x lo hi) (m y : ℕ) → rank_in t m y ≤ m + n
unfolding rank_in
rank_high {n = n} (none e) m y = omega arith
rank_high {A} (node {n = n} {x = x} z p a b l r) m y =
    by_cases (λ v. v ≤ m + suc n) (eqb y x) (λ e. omega arith)
    (λ e. by_cases (λ v. v ≤ m + suc n) (ltb (A.key y) (A.key x)) (λ f. omega (arith, rank_high l (suc m) y)) (λ f. omega (arith, rank_high r (suc m) y)))

-- the slot itself, and what hangs on a side of it
rank_here : {A : Tab} {P : ℕ → Type 0} {n x lo hi : ℕ} (t : Tree A P n x lo hi) (m : ℕ) → rank_in t m x ≡ m
unfolding rank_in
rank_here (none e) m = refl
rank_here (node {x = x} z p a b l r) m = rw (eq-eqb x x refl)

rises : {A : Tab} {P : ℕ → Type 0} {n x lo hi p y : ℕ} (d : Bool) (t : Tree A P n x lo hi) (m : ℕ) → x ≢ 0 → Under A x p → A.link p d ≡ y → y ≢ 0
    → rank_in t m p < rank_in t m y
unfolding rank_in
rises d (none e) m z u f n = absurd (z e)
rises {A} {p = p} {y = y} d (node {x = x} z₀ q a b l r) m z u f n = ⊎_elim
    (λ e. rw e (rw (eq-eqb x x refl) (below d (rw e at f))))
    (λ s. down s.0 s.1 (λ i. rises d l (suc m) i.0 i.1 f n) (λ i. rises d r (suc m) i.0 i.1 f n))
    (under_split u)
  where
    -- a slot on the left, on the right
    left : {w : ℕ} → Beside A x true w → rank_in (node z₀ q a b l r) m w ≡ rank_in l (suc m) w
    left {w} s =
        let h = bounds l s.0 s.1 in
        rw (ne_eqb w x (λ e. let g = ap A.key e in omega arith), lt-ltb (A.key w) (A.key x) h.1)

    right : {w : ℕ} → Beside A x false w → rank_in (node z₀ q a b l r) m w ≡ rank_in r (suc m) w
    right {w} s =
        let h = bounds r s.0 s.1 in
        rw (ne_eqb w x (λ e. let g = ap A.key e in omega arith), le-ltb (A.key w) (A.key x) (omega arith))

    below : (c : Bool) → A.link x c ≡ y → m < rank_in (node z₀ q a b l r) m y
    below true e = let k : A.link x true ≢ 0 = rw e n in rw (left (k, top (sym e))) (omega (arith, rank_low l (suc m) y))
    below false e = let k : A.link x false ≢ 0 = rw e n in rw (right (k, top (sym e))) (omega (arith, rank_low r (suc m) y))

    down : (c : Bool) → Beside A x c p → (Beside A x true p → rank_in l (suc m) p < rank_in l (suc m) y)
        → (Beside A x false p → rank_in r (suc m) p < rank_in r (suc m) y) → rank_in (node z₀ q a b l r) m p < rank_in (node z₀ q a b l r) m y
    down true s i j = rw (left s, left (s.0, kid d s.1 f n)) (i s)
    down false s i j = rw (right s, right (s.0, kid d s.1 f n)) (j s)

-- THE RANK IN THE WHOLE TABLE: the root's is 0
module _ {A : Tab} {P : ℕ → Type 0} {n : ℕ} (t : Rooted A P n) where
  unfoldable pub rank_of : ℕ → ℕ
  rank_of y = cond (eqb y 0) 0 (rank_in t.tree 1 y)

  pub rank_capped : (y : ℕ) → rank_of y ≤ suc n
  unfolding rank_of
  rank_capped y = by_cases (λ v. v ≤ suc n) (eqb y 0) (λ e. omega arith) (λ e. omega (arith, rank_high t.tree 1 y))

  pub rank_rises : {p y : ℕ} (d : Bool) → Reached A p → A.link p d ≡ y → y ≢ 0 → rank_of p < rank_of y
  unfolding rank_of
  rank_rises {p} {y} d r e z = rw (ne_eqb y 0 z) (go (ℕ_discrete p 0) (reach_split t r))
    where
      go : Dec (p ≡ 0) → (p ≡ 0) ⊎ Beside A 0 true p → cond (eqb p 0) 0 (rank_in t.tree 1 p) < rank_in t.tree 1 y
      go (yes q) s = rw (eq-eqb p 0 q) (omega (arith, rank_low t.tree 1 y))
      go (no q) (inl s) = absurd (q s)
      go (no q) (inr s) = rw (ne_eqb p 0 q) (rises d t.tree 1 s.0 s.1 e z)
