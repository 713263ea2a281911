-- What legal fields are bounded by, and that they fit their widths.
-- Assumes nothing.
use mathlib.Core.Path.{◌≡◌, refl}
use mathlib.Core.Bool.{true, ◌&&◌, ◌||◌}
use mathlib.Core.Logic.{◌⊎◌, inl, inr, ⊎_elim}
use Prim.Native.Nat.{ℕ, ◌≤◌}
use native.Mathlib.Omega.{arith}
use Rattle.layout.specs.Layout.{Fit}
use Rattle.moment.specs.Calendar.{leap_of, days_in, date_exists, time_exists, moment_exists}
use Rattle.moment.specs.Key.{key_layout, listed, moment_of, in_range}
use Rattle.moment.specs.declared.Fields.{Fields}
use lib.Dec.{leb, eqb}
use borrow.Author.Tests.{eqb-true, le-leb}
use Rattle.moment.proofs.Tests.{tests, by_cases, either}

pub record Date (year month day : ℕ) : Type 0 where
  pub from : 1990 ≤ year
  pub to : year ≤ 2999
  pub first : 1 ≤ day
  pub last : day ≤ days_in year month

pub date : (year month day : ℕ) → date_exists year month day ≡ true → Date year month day
unfolding date_exists
date year month day e =
    let r = simp tests at e in
    record {
      from = r.0.0.0;
      to = r.0.0.1;
      first = r.0.1;
      last = r.1;
    }

pub record Ranges (f : Fields) : Type 0 where
  pub on : Date f.moment.year f.moment.month f.moment.day
  pub hour : f.moment.hour ≤ 23
  pub minute : f.moment.minute ≤ 59
  pub second : f.moment.second ≤ 59
  pub hundredth : f.hundredth ≤ 99
  pub camera : f.camera ≤ 31
  pub number : f.number ≤ 9999

pub ranges : (f : Fields) → in_range f ≡ true → Ranges f
unfolding in_range moment_exists moment_of time_exists
ranges f e =
    let r = simp tests at e in
    record {
      on = date _ _ _ r.0.0.0.0;
      hour = r.0.0.0.1.0.0;
      minute = r.0.0.0.1.0.1;
      second = r.0.0.0.1.1;
      hundredth = r.0.0.1;
      camera = r.0.1;
      number = r.1;
    }

-- and fields within those bounds are legal
pub ranged : (f : Fields) → Ranges f → in_range f ≡ true
unfolding in_range moment_exists moment_of date_exists time_exists
ranged f r =
    simp tests (((((((r.on.from, r.on.to), r.on.first), r.on.last), ((r.hour, r.minute), r.second)), r.hundredth), r.camera), r.number)

-- a month has none or 28 to 31 days, and only the twelve have any
pub days : (year month : ℕ) → (days_in year month ≡ 0) ⊎ ((1 ≤ month) × (month ≤ 12) × (28 ≤ days_in year month) × (days_in year month ≤ 31))
unfolding days_in
days year month =
    by_cases P (eqb month 2)
    (λ e. let m = eqb-true month 2 e in by_cases P (leap_of year) (λ _. inr (omega arith)) (λ _. inr (omega arith)))
    (λ _. by_cases P (eqb month 4 || eqb month 6 || eqb month 9 || eqb month 11)
    (λ e. inr (short e))
    (λ _. by_cases P (leb 1 month && leb month 12) (λ e. let r = simp tests at e in inr (r.0, r.1, omega arith, omega arith)) (λ _. inl refl)))
  where
    P : ℕ → Type 0
    P d = (d ≡ 0) ⊎ ((1 ≤ month) × (month ≤ 12) × (28 ≤ d) × (d ≤ 31))

    short : (eqb month 4 || eqb month 6 || eqb month 9 || eqb month 11) ≡ true → (1 ≤ month) × (month ≤ 12) × (28 ≤ 30) × (30 ≤ 31)
    short e =
        ⊎_elim (λ p. ⊎_elim (λ q. ⊎_elim (λ a. omega (arith, eqb-true month 4 a)) (λ a. omega (arith, eqb-true month 6 a)) (either _ _ q))
        (λ q. omega (arith, eqb-true month 9 q)) (either _ _ p)) (λ p. omega (arith, eqb-true month 11 p)) (either _ _ e)

pub days_least : (year month : ℕ) → 1 ≤ month → month ≤ 12 → 28 ≤ days_in year month
unfolding days_in
days_least year month l h =
    by_cases P (eqb month 2) (λ _. by_cases P (leap_of year) (λ _. omega arith) (λ _. omega arith))
    (λ _. by_cases P (eqb month 4 || eqb month 6 || eqb month 9 || eqb month 11) (λ _. omega arith)
    (λ _. rw (le-leb 1 month l, le-leb month 12 h) (omega arith)))
  where
    P : ℕ → Type 0
    P d = 28 ≤ d

-- a date that exists is in one of the twelve months, on its 31st day at the latest
pub month_of : {year month day : ℕ} → Date year month day → (1 ≤ month) × (month ≤ 12) × (day ≤ 31)
month_of {year} {month} d = ⊎_elim (λ e. absurd (omega (arith, d.first, d.last))) (λ r. (r.0, r.1, omega (arith, d.last, r))) (days year month)

pub fits : (f : Fields) → Ranges f → Fit key_layout (listed f)
fits f r = omega (arith, r.on, month_of r.on)

pub fits_in_range : (f : Fields) → in_range f ≡ true → Fit key_layout (listed f)
fits_in_range f e = fits f (ranges f e)
