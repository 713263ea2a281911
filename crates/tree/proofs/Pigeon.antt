-- Distinct numbers that all stand in a list are at most as many as it has; and if they are as many, they are all of it.
-- Assumes nothing.
use mathlib.Core.Path.{◌≡◌, refl, sym, ap, ◌∙◌}
use mathlib.Core.List.Memᴰ
use mathlib.Core.List.{List, [], ◌∷◌, Memᴰ}
use mathlib.Core.Logic.{⊎_elim, ◌≢◌}
use Prim.Native.Nat.{ℕ, zero, suc, ◌≤◌, ◌<◌}
use native.Mathlib.Omega.{arith}
use native.Mathlib.Decide.{ℕ_discrete}
use lib.ListN.{length}
use Rattle.layout.specs.Layout.{All}

-- x stands in xs
abbrev pub Mem : ℕ → List ℕ → Type 0
Mem x xs = Memᴰ x xs

abbrev pub Distinct : List ℕ → Type 0
Distinct [] = Unit {0}
Distinct (x ∷ xs) = All (λ y. y ≢ x) xs × Distinct xs

pub All_map : (P Q : ℕ → Type 0) (xs : List ℕ) → ((x : ℕ) → P x → Q x) → All P xs → All Q xs
All_map P Q [] f a = tt
All_map P Q (x ∷ xs) f a = (f x a.0, All_map P Q xs f a.1)

pub All_mem : (P : ℕ → Type 0) (xs : List ℕ) → All P xs → (x : ℕ) → Mem x xs → P x
All_mem P [] a x m = absurd (Memᴰ.not-nil m)
All_mem P (y ∷ ys) a x m = ⊎_elim (λ e. rw e a.0) (λ n. All_mem P ys a.1 x n) (Memᴰ.cases_cons m)

pub All_of : (P : ℕ → Type 0) (xs : List ℕ) → ((x : ℕ) → Mem x xs → P x) → All P xs
All_of P [] f = tt
All_of P (x ∷ xs) f = (f x (Memᴰ.head refl), All_of P xs (λ y m. f y (Memᴰ.tail m)))

pub dec_mem : (x : ℕ) (xs : List ℕ) → Dec (Mem x xs)
dec_mem x [] = no (λ m. Memᴰ.not-nil m)
dec_mem x (y ∷ ys) = go (ℕ_discrete x y) (dec_mem x ys)
  where
    go : Dec (x ≡ y) → Dec (Mem x ys) → Dec (Mem x (y ∷ ys))
    go (yes e) r = yes (Memᴰ.head e)
    go (no e) (yes m) = yes (Memᴰ.tail m)
    go (no e) (no n) = no (λ m. ⊎_elim e n (Memᴰ.cases_cons m))

-- a list without one of its numbers
record Without (m : ℕ) (xs : List ℕ) : Type 0 where
  rest : List ℕ
  shorter : length xs ≡ suc (length rest)
  others : (x : ℕ) → x ≢ m → Mem x xs → Mem x rest

without : (m : ℕ) (xs : List ℕ) → Mem m xs → Without m xs
without m [] i = absurd (Memᴰ.not-nil i)
without m (x ∷ xs) i = ⊎_elim
    (λ e.
    record {
      rest = xs;
      shorter = refl;
      others = λ y n j. ⊎_elim (λ q. absurd (n (q ∙ sym e))) (λ k. k) (Memᴰ.cases_cons j);
    })
    (λ k.
    let w = without m xs k in
    record {
      rest = x ∷ w.rest;
      shorter = ap suc w.shorter;
      others = λ y n j. ⊎_elim (λ q. Memᴰ.head q) (λ l. Memᴰ.tail (w.others y n l)) (Memᴰ.cases_cons j);
    })
    (Memᴰ.cases_cons i)

pub pigeon : (xs ys : List ℕ) → Distinct xs → ((x : ℕ) → Mem x xs → Mem x ys) → length xs ≤ length ys
pigeon [] ys d f = omega arith
pigeon (x ∷ xs) ys d f =
    let w = without x ys (f x (Memᴰ.head refl)) in
    let i = pigeon xs w.rest d.1 (λ y m. w.others y (All_mem (λ z. z ≢ x) xs d.0 y m) (f y (Memᴰ.tail m))) in
    let s = w.shorter in
    omega arith

pub all_there : (xs ys : List ℕ) → Distinct xs → ((x : ℕ) → Mem x xs → Mem x ys) → length ys ≤ length xs → (y : ℕ) → Mem y ys → Mem y xs
all_there xs ys d f l y m = go (dec_mem y xs)
  where
    go : Dec (Mem y xs) → Mem y xs
    go (yes i) = i
    go (no n) =
        let p = pigeon (y ∷ xs) ys (All_of (λ z. z ≢ y) xs (λ z i e. n (rw e at i)), d)
        (λ z i. ⊎_elim (λ e. rw e m) (f z) (Memᴰ.cases_cons i)) in
        absurd (omega arith)

-- the numbers below n
abbrev pub below : ℕ → List ℕ
below zero = []
below (suc n) = n ∷ below n

below_length : (n : ℕ) → length (below n) ≡ n
below_length zero = refl
below_length (suc n) = ap suc (below_length n)

below_mem : (n x : ℕ) → x < n → Mem x (below n)
below_mem zero x h = absurd (omega arith)
below_mem (suc n) x h = go (ℕ_discrete x n) (below_mem n x)
  where
    go : Dec (x ≡ n) → (x < n → Mem x (below n)) → Mem x (n ∷ below n)
    go (yes e) r = Memᴰ.head e
    go (no e) r = Memᴰ.tail (r (omega arith))

-- distinct numbers below n are at most n
pub few : (n : ℕ) (xs : List ℕ) → Distinct xs → All (λ x. x < n) xs → length xs ≤ n
few n xs d a =
    let p = pigeon xs (below n) d (λ x m. below_mem n x (All_mem (λ y. y < n) xs a x m)) in
    let e = below_length n in
    omega arith
