-- The bit rules of a word, as the code judges them.
-- Assumes nothing.
use mathlib.Core.Path.{◌≡◌, refl, sym}
use mathlib.Core.Bool.{Bool, true, false, cond, not, ◌&&◌, ◌||◌, and-eq-true_iff, or-true}
use Prim.Native.Nat.{ℕ, zero, suc, ◌/◌, ◌%◌, ◌^◌, ◌<◌}
use native.Mathlib.Omega.{arith}
use native.Mathlib.Nat.{not-suc-le-zero}
use native.Mathlib.Decide.{ℕ_discrete}
use lib.Dec.{eqb}
use Rattle.layout.specs.Word.{get}
use Rattle.layout.specs.Layout.{pos, fld}
use Rattle.layout.proofs.WordLaws.{get_lt}
use Rattle.table.specs.Pair.{layout, link_f, lock_f, busy_f, zeros_f}
use Rattle.table.specs.Rules.{lock_fine, locks_fine}
use Rattle.table.specs.declared.Which.TheVariants.{State, Edge}
use Rattle.table.proofs.PairLaws.{lock_wide}
use Rattle.table.proofs.Places.{one, locks_at, locks_wide}

-- where the bits of the locks are zero, no lock is held
pub no_locks : (x : ℕ) → get locks_at locks_wide x ≡ 0 → true ≡ locks_fine x
unfolding lock_fine
no_locks x e =
    let a : fld layout (lock_f State) x ≡ 0 = omega arith in
    let b : fld layout (lock_f (Edge true)) x ≡ 0 = omega arith in
    let d : fld layout (lock_f (Edge false)) x ≡ 0 = omega arith in
    rw (a, b, d)

-- where all bits below the links are zero, so is what they hold
pub no_rest : (x : ℕ) (root : Bool) → x % one (link_f false) ≡ 0
    → true ≡ (locks_fine x && (root || eqb (fld layout busy_f x) 0) && eqb (fld layout zeros_f x) 0)
no_rest x root e =
    let l : get locks_at locks_wide x ≡ 0 = omega arith in
    let y : fld layout busy_f x ≡ 0 = omega arith in
    let z : fld layout zeros_f x ≡ 0 = omega arith in
    rw (← no_locks x l, y, z, or-true root)

-- a table of tests, one bit for each number below n
pub alike : ℕ → (ℕ → Bool) → (ℕ → Bool) → Bool
alike zero f g = true
alike (suc n) f g = cond (f n) (g n) (not (g n)) && alike n f g

pub alike_at : (n : ℕ) (f g : ℕ → Bool) → alike n f g ≡ true → (x : ℕ) → x < n → f x ≡ g x
unfolding alike
alike_at zero f g e x h = absurd (not-suc-le-zero h)
alike_at (suc n) f g e x h = go (ℕ_discrete x n) (λ l. alike_at n f g both.1 x l)
  where
    same : (a b : Bool) → cond a b (not b) ≡ true → a ≡ b
    same true true q = refl
    same true false q = sym q
    same false true q = q
    same false false q = refl

    both : (cond (f n) (g n) (not (g n)) ≡ true) × (alike n f g ≡ true)
    both = (and-eq-true_iff (cond (f n) (g n) (not (g n))) (alike n f g)).0 e

    go : Dec (x ≡ n) → (x < n → f x ≡ g x) → f x ≡ g x
    go (yes q) below = rw q (same (f n) (g n) both.0)
    go (no q) below = below (omega arith)

-- the locks that are fine, as a table: 0, 1, and the even numbers to 32
abbrev fine : ℕ
fine = 5726623063

pub fine_table : (x : ℕ) → x < 2 ^ lock_wide → eqb (fine / 2 ^ x % 2) 1 ≡ lock_fine x
unfolding alike lock_fine
fine_table x h = alike_at (2 ^ lock_wide) (λ y. eqb (fine / 2 ^ y % 2) 1) lock_fine refl x h

fine_lock : (p x : ℕ) → eqb (fine / 2 ^ get p lock_wide x % 2) 1 ≡ lock_fine (get p lock_wide x)
fine_lock p x = fine_table (get p lock_wide x) (get_lt p lock_wide x)

pub locks_by : (x : ℕ) → (eqb (fine / 2 ^ fld layout (lock_f State) x % 2) 1 && eqb (fine / 2 ^ fld layout (lock_f (Edge true)) x % 2) 1 && eqb (fine / 2 ^ fld layout (lock_f (Edge false)) x % 2) 1)
    ≡ locks_fine x
locks_by x = rw (fine_lock (pos layout (lock_f State)) x, fine_lock (pos layout (lock_f (Edge true))) x, fine_lock (pos layout (lock_f (Edge false))) x)
