-- HOW FAR A LOOKUP STILL HAS TO GO: the slots that are free or of a higher rank. Each of its steps takes one off, no store adds
-- one.
-- Assumes nothing.
use mathlib.Core.Path.{◌≡◌, refl}
use mathlib.Core.Bool.{cond}
use mathlib.Core.List.{List}
use mathlib.Core.Logic.{◌≢◌}
use Prim.Native.Nat.{ℕ, zero, suc, ◌+◌, ◌≤◌, ◌<◌}
use native.Mathlib.Omega.{arith}
use native.Mathlib.Decide.{ℕ_discrete, dec_lt}
use lib.Dec.{ltb, eqb}
use borrow.Author.Tests.{eq-eqb, ne_eqb, lt-ltb, le-ltb}
use Rattle.tree.specs.Reach.{Tab, top}
use Rattle.protocol.specs.declared.Kind.TheVariants.{Lookup, Insert, Remove}
use Rattle.protocol.proofs.Paths.Shape.{Shape, reached_some}
use Rattle.protocol.proofs.Together.Locks.{Held}
use Rattle.protocol.proofs.Together.Facts.{Store, rho_after, some_store, rho_store}
use Rattle.protocol.proofs.Together.Stages.{walk, look, lock, killed, killed_both, last, Doing, idle, busy}

unfoldable pub above : Tab → (ℕ → ℕ) → ℕ → ℕ → ℕ
above A rho x s = cond (eqb (A.state s) 0) 1 (cond (ltb (rho x) (rho s)) 1 0)

above_free : (A : Tab) (rho : ℕ → ℕ) (x s : ℕ) → A.state s ≡ 0 → above A rho x s ≡ 1
unfolding above
above_free A rho x s e = rw (eq-eqb (A.state s) 0 e)

above_more : (A : Tab) (rho : ℕ → ℕ) (x s : ℕ) → A.state s ≢ 0 → rho x < rho s → above A rho x s ≡ 1
unfolding above
above_more A rho x s n l = rw (ne_eqb (A.state s) 0 n, lt-ltb (rho x) (rho s) l)

above_not : (A : Tab) (rho : ℕ → ℕ) (x s : ℕ) → A.state s ≢ 0 → rho s ≤ rho x → above A rho x s ≡ 0
unfolding above
above_not A rho x s n l = rw (ne_eqb (A.state s) 0 n, le-ltb (rho x) (rho s) l)

-- each kind of slot
above_cases : (A : Tab) (rho : ℕ → ℕ) (x s : ℕ) (P : ℕ → Type 0) → (A.state s ≡ 0 → P 1) → (A.state s ≢ 0 → rho x < rho s → P 1)
    → (A.state s ≢ 0 → rho s ≤ rho x → P 0) → P (above A rho x s)
above_cases A rho x s P f g h = go (ℕ_discrete (A.state s) 0) (dec_lt (rho x) (rho s))
  where
    go : Dec (A.state s ≡ 0) → Dec (rho x < rho s) → P (above A rho x s)
    go (yes e) d = rw (above_free A rho x s e) (f e)
    go (no n) (yes l) = rw (above_more A rho x s n l) (g n l)
    go (no n) (no l) = rw (above_not A rho x s n (omega arith)) (h n (omega arith))

abbrev pub count : ℕ → (ℕ → ℕ) → ℕ
count zero f = 0
count (suc n) f = f n + count n f

pub count_le : (n : ℕ) (f g : ℕ → ℕ) → ((s : ℕ) → f s ≤ g s) → count n f ≤ count n g
count_le zero f g h = omega arith
count_le (suc n) f g h = omega (arith, h n, count_le n f g h)

pub count_lt : (n : ℕ) (f g : ℕ → ℕ) → ((s : ℕ) → f s ≤ g s) → (z : ℕ) → z < n → f z < g z → count n f < count n g
count_lt zero f g h z l m = absurd (omega arith)
count_lt (suc n) f g h z l m = go (ℕ_discrete z n) (λ i. count_lt n f g h z i m)
  where
    go : Dec (z ≡ n) → (z < n → count n f < count n g) → f n + count n f < g n + count n g
    go (yes e) r = let m' : f n < g n = rw e at m in omega (arith, count_le n f g h)
    go (no e) r = omega (arith, h n, r (omega arith))

count_one : (n : ℕ) → count n (λ s. 1) ≡ n
count_one zero = refl
count_one (suc n) = omega (arith, count_one n)

-- to go from x
abbrev pub togo : ℕ → Tab → (ℕ → ℕ) → ℕ → ℕ
togo n A rho x = count n (above A rho x)

pub togo_root : {A : Tab} {rho : ℕ → ℕ} (n : ℕ) → Shape A rho → 0 < n → togo n A rho 0 < n
togo_root {A} {rho} n h l =
    let z = above_not A rho 0 0 (reached_some h (top refl)) (omega arith) in
    omega (arith, count_one n, count_lt n (above A rho 0) (λ s. 1) (λ s. above_cases A rho 0 s (λ v. v ≤ 1) (λ e. omega arith) (λ e m. omega arith) (λ e m. omega arith)) 0 l (omega arith))

pub togo_step : (A : Tab) (rho : ℕ → ℕ) (n x z : ℕ) → A.state z ≢ 0 → rho x < rho z → z < n → togo n A rho z < togo n A rho x
togo_step A rho n x z m l b =
    let p = above_not A rho z z m (omega arith) in
    let q = above_more A rho x z m l in
    count_lt n (above A rho z) (above A rho x)
    (λ s. above_cases A rho z s (λ v. v ≤ above A rho x s)
    (λ e. omega (arith, above_free A rho x s e)) (λ e i. omega (arith, above_more A rho x s e (omega arith))) (λ e i. omega arith))
    z b (omega arith)

pub togo_store : {A B : Tab} {hs : List Held} {rho : ℕ → ℕ} (n x : ℕ) (t : Store A B hs) (h : Shape A rho) → A.state x ≢ 0
    → togo n B (rho_after t h) x ≤ togo n A rho x
togo_store {A} {B} {hs} {rho} n x t h m =
    count_le n (above B (rho_after t h) x) (above A rho x)
    (λ s. above_cases A rho x s (λ v. above B (rho_after t h) x s ≤ v)
    (λ e. most s)
    (λ e i. most s)
    (λ e i. let z = above_not B (rho_after t h) x s (some_store t h s e) (rw (rho_store t h s e, rho_store t h x m) i) in omega arith))
  where
    most : (s : ℕ) → above B (rho_after t h) x s ≤ 1
    most s = above_cases B (rho_after t h) x s (λ v. v ≤ 1) (λ e. omega arith) (λ e i. omega arith) (λ e i. omega arith)

-- a Lookup that has made t steps
abbrev pub Quick : ℕ → Tab → (ℕ → ℕ) → ℕ → Doing → Type 0
Quick n A rho t idle = Unit {0}
Quick n A rho t (busy Lookup k (walk a p b d)) = t + togo n A rho a < n
Quick n A rho t (busy Insert k (walk a p b d)) = Unit {0}
Quick n A rho t (busy Remove k (walk a p b d)) = Unit {0}
Quick n A rho t (busy j k (look s p b d)) = Unit {0}
Quick n A rho t (busy j k (lock c i)) = Unit {0}
Quick n A rho t (busy j k (killed c)) = Unit {0}
Quick n A rho t (busy j k (killed_both c)) = Unit {0}
Quick n A rho t (busy j k (last c)) = Unit {0}
