-- The instant of a key: the hundredths of a second since 1990:01:01 00:00:00, by counting the days of the calendar.
-- Assumes nothing.
use Rattle.std.specs.Prelude.{ℕ, zero, suc, ◌+◌, ◌*◌, ◌-◌}
use Rattle.moment.specs.Calendar.{days_in}
use Rattle.moment.specs.Key.{fields_of}
use Rattle.moment.specs.declared.Fields.{Fields}

-- the days of the first n months of a year
unfoldable pub days_of_months : ℕ → ℕ → ℕ
days_of_months year zero = 0
days_of_months year (suc n) = days_of_months year n + days_in year (suc n)

-- the days of the first n years from 1990 on
unfoldable pub days_of_years : ℕ → ℕ
days_of_years zero = 0
days_of_years (suc n) = days_of_years n + days_of_months (1990 + n) 12

-- how many days lie between 1990:01:01 and a date
unfoldable pub day_number : ℕ → ℕ → ℕ → ℕ
day_number year month day = days_of_years (year - 1990) + days_of_months year (month - 1) + (day - 1)

-- 24 hours a day, 60 minutes an hour, 60 seconds a minute, 100 hundredths a second
unfoldable pub instant_of_fields : Fields → ℕ
instant_of_fields f =
    let m = f.moment in
    (((day_number m.year m.month m.day * 24 + m.hour) * 60 + m.minute) * 60 + m.second) * 100 + f.hundredth

unfoldable pub instant_of : ℕ → ℕ
instant_of key = instant_of_fields (fields_of key)
