-- Counting days: the next day, month and year; dates are numbered in their order, each by a number of its own, and every
-- number up to the last day of 2999 is a date's.
-- Assumes nothing.
use mathlib.Core.Path.{◌≡◌, refl, sym, ap, ◌∙◌}
use Prim.Native.Nat.{ℕ, zero, suc, ◌+◌, ◌*◌, ◌-◌, ◌≤◌, ◌<◌}
use native.Mathlib.Omega.{arith}
use native.Mathlib.Nat.{add-zero, add-suc}
use native.Mathlib.Decide.{dec_lt}
use Rattle.moment.specs.Calendar.{days_in}
use Rattle.moment.specs.Instant.{days_of_months, days_of_years, day_number}
use Rattle.moment.proofs.Ranges.{Date, days_least, month_of}

-- a count that never falls
rises : (f : ℕ → ℕ) → ((n : ℕ) → f n ≤ f (suc n)) → (i j : ℕ) → i ≤ j → f i ≤ f j
rises f h i j l =
    let e : i + (j - i) ≡ j = omega arith in
    rw e at (go (j - i))
  where
    go : (k : ℕ) → f i ≤ f (i + k)
    go zero = rw add-zero (omega arith)
    go (suc k) = rw add-suc (omega (arith, go k, h (i + k)))

months_rise : (year i j : ℕ) → i ≤ j → days_of_months year i ≤ days_of_months year j
unfolding days_of_months
months_rise year i j l = rises (days_of_months year) (λ n. omega arith) i j l

years_rise : (i j : ℕ) → i ≤ j → days_of_years i ≤ days_of_years j
unfolding days_of_years
years_rise i j l = rises days_of_years (λ n. omega arith) i j l

-- one month more, and one year more
month_more : (year month : ℕ) → 1 ≤ month → days_of_months year month ≡ days_of_months year (month - 1) + days_in year month
unfolding days_of_months
month_more year month h =
    let e : suc (month - 1) ≡ month = omega arith in
    ap (days_of_months year) (sym e) ∙ ap (λ (n : ℕ). days_of_months year (month - 1) + days_in year n) e

year_more : (year : ℕ) → 1990 ≤ year → days_of_years (suc year - 1990) ≡ days_of_years (year - 1990) + days_of_months year 12
unfolding days_of_years
year_more year h =
    let e : suc year - 1990 ≡ suc (year - 1990) = omega arith in
    let d : 1990 + (year - 1990) ≡ year = omega arith in
    rw e (ap (λ (n : ℕ). days_of_years (year - 1990) + days_of_months n 12) d)

-- THE NEXT DAY has the next number: within a month, into the next month, and into the next year
pub next_day : (year month day : ℕ) → 1 ≤ day → day_number year month (suc day) ≡ suc (day_number year month day)
unfolding day_number
next_day year month day h = omega arith

pub next_month : (year month : ℕ) → 1 ≤ month → 1 ≤ days_in year month → day_number year (suc month) 1 ≡ suc (day_number year month (days_in year month))
unfolding day_number
next_month year month h d =
    let e : suc month - 1 ≡ month = omega arith in
    rw e (omega (arith, month_more year month h))

pub next_year : (year : ℕ) → 1990 ≤ year → day_number (suc year) 1 1 ≡ suc (day_number year 12 31)
unfolding day_number days_of_months days_in
next_year year h = omega (arith, year_more year h)

-- a date lies before the next month begins, and before the next year does
in_month : {year month day : ℕ} → Date year month day → days_of_months year (month - 1) + day ≤ days_of_months year month
in_month {year} {month} d = omega (arith, d.last, month_more year month (month_of d).0)

in_year : {year month day : ℕ} → Date year month day → day_number year month day < days_of_years (suc year - 1990)
unfolding day_number
in_year {year} {month} d =
    omega (arith, d.first, in_month d, months_rise year month 12 (month_of d).1, year_more year d.from)

-- a date's fields side by side, as a key has them
abbrev pub date_bits : ℕ → ℕ → ℕ → ℕ
date_bits year month day = (year * 16 + month) * 32 + day

-- DATES ARE NUMBERED IN THEIR ORDER
pub day_order : {y m d y' m' d' : ℕ} → Date y m d → Date y' m' d' → date_bits y m d < date_bits y' m' d' → day_number y m d < day_number y' m' d'
unfolding day_number
day_order {y} {m} {d} {y'} {m'} {d'} a b h = by_year (dec_lt y y') (dec_lt m m')
  where
    ma : (1 ≤ m) × (m ≤ 12) × (d ≤ 31)
    ma = month_of a

    mb : (1 ≤ m') × (m' ≤ 12) × (d' ≤ 31)
    mb = month_of b

    by_year : Dec (y < y') → Dec (m < m') → day_number y m d < day_number y' m' d'
    by_year (yes l) e = omega (arith, in_year a, years_rise (suc y - 1990) (y' - 1990) (omega arith))
    by_year (no l) (yes e) =
        let same : y' ≡ y = omega (arith, ma, mb) in
        rw same (omega (arith, a.first, b.first, in_month a, months_rise y m (m' - 1) (omega arith)))
    by_year (no l) (no e) =
        let same : y' ≡ y = omega (arith, ma, mb) in
        let also : m' ≡ m = omega (arith, ma, mb) in
        rw (same, also) (omega (arith, a.first, b.first))

-- each date has a number of its own
pub day_injective : {y m d y' m' d' : ℕ} → Date y m d → Date y' m' d' → day_number y m d ≡ day_number y' m' d' → (y ≡ y') × (m ≡ m') × (d ≡ d')
day_injective {y} {m} {d} {y'} {m'} {d'} a b e = go (dec_lt (date_bits y m d) (date_bits y' m' d')) (dec_lt (date_bits y' m' d') (date_bits y m d))
  where
    go : Dec (date_bits y m d < date_bits y' m' d') → Dec (date_bits y' m' d' < date_bits y m d) → (y ≡ y') × (m ≡ m') × (d ≡ d')
    go (yes l) k = absurd (omega (arith, day_order a b l))
    go (no l) (yes k) = absurd (omega (arith, day_order b a k))
    go (no l) (no k) = let ma = month_of a in let mb = month_of b in (omega arith, omega arith, omega arith)

-- EACH NUMBER up to the last day of 2999 is a date's
pub record DateOf (n : ℕ) : Type 0 where
  pub year : ℕ
  pub month : ℕ
  pub day : ℕ
  pub on : Date year month day
  pub is : day_number year month day ≡ n

start_of_3000 : day_number 3000 1 1 ≡ days_of_years 1010
unfolding day_number days_of_months
start_of_3000 = omega arith

-- the date after a date, but for the last day of 2999
day_after : (n : ℕ) → suc n < days_of_years 1010 → DateOf n → DateOf (suc n)
unfolding days_in
day_after n h d = go (dec_lt d.day (days_in d.year d.month)) (dec_lt d.month 12) (dec_lt d.year 2999)
  where
    on : Date d.year d.month d.day
    on = d.on

    m : (1 ≤ d.month) × (d.month ≤ 12) × (d.day ≤ 31)
    m = month_of on

    at_end : ¬ (d.day < days_in d.year d.month) → d.day ≡ days_in d.year d.month
    at_end a = omega (arith, on.last)

    last_day : ¬ (d.day < days_in d.year d.month) → ¬ (d.month < 12) → day_number (suc d.year) 1 1 ≡ suc n
    last_day a b =
        let e : d.month ≡ 12 = omega (arith, m) in
        let t : day_number d.year 12 31 ≡ n = ap (λ (k : ℕ). day_number d.year k 31) (sym e) ∙ ap (day_number d.year d.month) (sym (at_end a ∙ ap (days_in d.year) e)) ∙ d.is in
        next_year d.year on.from ∙ ap suc t

    go : Dec (d.day < days_in d.year d.month) → Dec (d.month < 12) → Dec (d.year < 2999) → DateOf (suc n)
    go (yes a) b c =
        record {
          year = d.year;
          month = d.month;
          day = suc d.day;
          on = record { from = on.from; to = on.to; first = omega arith; last = a };
          is = next_day d.year d.month d.day on.first ∙ ap suc d.is;
        }
    go (no a) (yes b) c =
        record {
          year = d.year;
          month = suc d.month;
          day = 1;
          on = record { from = on.from; to = on.to; first = omega arith; last = omega (arith, days_least d.year (suc d.month) (omega arith) b) };
          is = next_month d.year d.month m.0 (omega (arith, on.first, on.last)) ∙ ap suc (ap (day_number d.year d.month) (sym (at_end a)) ∙ d.is);
        }
    go (no a) (no b) (yes c) =
        record {
          year = suc d.year;
          month = 1;
          day = 1;
          on = record { from = omega (arith, on.from); to = c; first = omega arith; last = omega (arith, days_least (suc d.year) 1 (omega arith) (omega arith)) };
          is = last_day a b;
        }
    go (no a) (no b) (no c) =
        let y : suc d.year ≡ 3000 = omega (arith, on.to) in
        absurd (omega (arith, h, last_day a b, start_of_3000, ap (λ (y : ℕ). day_number y 1 1) y))

first_date : DateOf 0
unfolding day_number days_of_years days_of_months days_in
first_date = record { year = 1990; month = 1; day = 1; on = omega arith; is = refl }

pub date_of : (n : ℕ) → n < days_of_years 1010 → DateOf n
date_of zero h = first_date
date_of (suc n) h = day_after n h (date_of n (omega arith))
