-- A sum over a list, and what a change of one entry does to it.
-- Assumes nothing.
use mathlib.Core.Path.{◌≡◌}
use mathlib.Core.List.{List, [], ◌∷◌}
use Prim.Native.Nat.{ℕ, zero, suc, ◌+◌, ◌≤◌, ◌<◌}
use native.Mathlib.Omega.{arith}
use native.Mathlib.Nat.{le_of_suc-le-suc}
use lib.ListN.{length, get_or, set}

module _ {A : Type 0} (f : A → ℕ) where
  abbrev pub sum : List A → ℕ
  sum [] = 0
  sum (x ∷ xs) = f x + sum xs

  -- the sum changes by the difference: said without a subtraction
  pub sum_set : (l : List A) (j : ℕ) (a d : A) → j < length l → sum (set l j a) + f (get_or l j d) ≡ sum l + f a
  sum_set [] j a d h = omega arith
  sum_set (x ∷ xs) zero a d h = omega arith
  sum_set (x ∷ xs) (suc j) a d h = omega (arith, sum_set xs j a d (le_of_suc-le-suc h))

  -- one entry is at most the whole
  pub sum_at : (l : List A) (j : ℕ) (d : A) → j < length l → f (get_or l j d) ≤ sum l
  sum_at [] j d h = omega arith
  sum_at (x ∷ xs) zero d h = omega arith
  sum_at (x ∷ xs) (suc j) d h = omega (arith, sum_at xs j d (le_of_suc-le-suc h))

  -- and so are two entries together
  pub sum_two : (l : List A) (i j : ℕ) (d : A) → i < j → j < length l → f (get_or l i d) + f (get_or l j d) ≤ sum l
  sum_two [] i j d h k = omega arith
  sum_two (x ∷ xs) zero zero d h k = omega arith
  sum_two (x ∷ xs) zero (suc j) d h k = omega (arith, sum_at xs j d (le_of_suc-le-suc k))
  sum_two (x ∷ xs) (suc i) zero d h k = omega arith
  sum_two (x ∷ xs) (suc i) (suc j) d h k = omega (arith, sum_two xs i j d (le_of_suc-le-suc h) (le_of_suc-le-suc k))
