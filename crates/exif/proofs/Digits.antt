-- Digits, and the numbers that they say.
-- Assumes nothing.
use mathlib.Core.Path.{◌≡◌}
use mathlib.Core.Bool.{true}
use mathlib.Core.List.{[], ◌∷◌}
use Prim.Native.Nat.{ℕ, ◌+◌, ◌-◌, ◌*◌, ◌/◌, ◌%◌, ◌≤◌, ◌<◌}
use native.Mathlib.Omega.{arith}
use Rattle.moment.proofs.Tests.{tests, by_cases}
use Rattle.exif.specs.Forms.{digit, one, two, four}
use Rattle.exif.specs.Reading.{is_digit, digit_of}

pub digit_bounds : (b : ℕ) → is_digit b ≡ true → (48 ≤ b) × (b ≤ 57)
unfolding is_digit
digit_bounds b e = simp tests at e

pub is_digit_lem : (d : ℕ) → d < 10 → is_digit (48 + d) ≡ true
unfolding is_digit
is_digit_lem d h = simp tests (omega arith)

pub value : (d : ℕ) → d < 10 → digit_of (48 + d) ≡ d
unfolding digit_of
value d h = let minus : 48 + d - 48 ≡ d = omega arith in simp (is_digit_lem d h, minus)

-- whatever the byte, its value is that of a digit
pub small : (b : ℕ) → digit_of b < 10
unfolding digit_of
small b = by_cases (λ n. n < 10) (is_digit b) (λ e. omega (arith, digit_bounds b e)) (λ _. omega arith)

-- the same of a number's last digit
pub last_is_digit : (n : ℕ) → is_digit (48 + n % 10) ≡ true
last_is_digit n = is_digit_lem (n % 10) (omega arith)

pub last_value : (n : ℕ) → digit_of (48 + n % 10) ≡ n % 10
last_value n = value (n % 10) (omega arith)

-- what digits say, written down again, is the digits
module _ (a b : ℕ) (ha : a < 10) (hb : b < 10) where
  tens : digit ((a * 10 + b) / 10) ≡ 48 + a
  tens = omega arith

  units : digit (a * 10 + b) ≡ 48 + b
  units = omega arith

  pub two_again : two (digit_of (48 + a) * 10 + digit_of (48 + b)) ≡ (48 + a) ∷ (48 + b) ∷ []
  unfolding two
  two_again = rw (value a ha, value b hb, tens, units)

pub one_again : (a : ℕ) → a < 10 → one (digit_of (48 + a)) ≡ (48 + a) ∷ []
unfolding one
one_again a h = let same : digit a ≡ 48 + a = omega arith in rw (value a h, same)

pub four_again : (a b c d : ℕ) → a < 10 → b < 10 → c < 10 → d < 10
    → four ((digit_of (48 + a) * 10 + digit_of (48 + b)) * 100 + (digit_of (48 + c) * 10 + digit_of (48 + d)))
    ≡ (48 + a) ∷ (48 + b) ∷ (48 + c) ∷ (48 + d) ∷ []
unfolding four two
four_again a b c d ha hb hc hd =
    let y = (a * 10 + b) * 100 + (c * 10 + d) in
    let e0 : digit (y / 100 / 10) ≡ 48 + a = omega arith in
    let e1 : digit (y / 100) ≡ 48 + b = omega arith in
    let e2 : digit (y / 10) ≡ 48 + c = omega arith in
    let e3 : digit y ≡ 48 + d = omega arith in
    rw (value a ha, value b hb, value c hc, value d hd, e0, e1, e2, e3)

-- a number that is written down says itself
pub two_back : (n : ℕ) → n < 100 → digit_of (digit (n / 10)) * 10 + digit_of (digit n) ≡ n
two_back n h = rw (last_value (n / 10), last_value n) (omega arith)

pub one_back : (n : ℕ) → n < 10 → digit_of (digit n) ≡ n
one_back n h = rw (last_value n) (omega arith)

pub four_back : (n : ℕ) → n < 10000
    → (digit_of (digit (n / 100 / 10)) * 10 + digit_of (digit (n / 100))) * 100 + (digit_of (digit (n / 10)) * 10 + digit_of (digit n)) ≡ n
four_back n h = rw (last_value (n / 100 / 10), last_value (n / 100), last_value (n / 10), last_value n) (omega arith)
