-- The Gregorian calendar, and the dates and times of day of document 01.
-- Assumes nothing.
use Rattle.std.specs.Prelude.{Bool, cond, not, ◌&&◌, ◌||◌, ℕ, ◌%◌, leb, eqb}
use Rattle.moment.specs.declared.Moment.{Moment}

-- each fourth year, but not each hundredth, unless it is a four hundredth
unfoldable pub leap_of : ℕ → Bool
leap_of year = eqb (year % 400) 0 || (eqb (year % 4) 0 && not (eqb (year % 100) 0))

-- the days of a month; a month that does not exist has none
unfoldable pub days_in : ℕ → ℕ → ℕ
days_in year month =
    cond (eqb month 2) (cond (leap_of year) 29 28)
    (cond (eqb month 4 || eqb month 6 || eqb month 9 || eqb month 11) 30
    (cond (leb 1 month && leb month 12) 31 0))

-- a Gregorian date, year 1990 to 2999
unfoldable pub date_exists : ℕ → ℕ → ℕ → Bool
date_exists year month day = leb 1990 year && leb year 2999 && leb 1 day && leb day (days_in year month)

-- hour to 23, minute and second to 59
unfoldable pub time_exists : ℕ → ℕ → ℕ → Bool
time_exists hour minute second = leb hour 23 && leb minute 59 && leb second 59

-- a moment: such a date, at such a time of day
unfoldable pub moment_exists : Moment → Bool
moment_exists m = date_exists m.year m.month m.day && time_exists m.hour m.minute m.second
