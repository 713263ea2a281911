-- The texts of the light table, byte by byte, each with its NUL.
-- Assumes nothing.
use Rattle.std.specs.Prelude.{List, [], ◌∷◌, ℕ}

-- `2024:06:15 9:58:07`, 9:58:07 without the leading zero
abbrev pub short : List ℕ
short = 50 ∷ 48 ∷ 50 ∷ 52 ∷ 58 ∷ 48 ∷ 54 ∷ 58 ∷ 49 ∷ 53 ∷ 32 ∷ 57 ∷ 58 ∷ 53 ∷ 56 ∷ 58 ∷ 48 ∷ 55 ∷ 0 ∷ []

-- `2024:06:15 10:02:07`
abbrev pub long : List ℕ
long = 50 ∷ 48 ∷ 50 ∷ 52 ∷ 58 ∷ 48 ∷ 54 ∷ 58 ∷ 49 ∷ 53 ∷ 32 ∷ 49 ∷ 48 ∷ 58 ∷ 48 ∷ 50 ∷ 58 ∷ 48 ∷ 55 ∷ 0 ∷ []

-- `2024:06:15 09:58:07`
abbrev pub padded : List ℕ
padded = 50 ∷ 48 ∷ 50 ∷ 52 ∷ 58 ∷ 48 ∷ 54 ∷ 58 ∷ 49 ∷ 53 ∷ 32 ∷ 48 ∷ 57 ∷ 58 ∷ 53 ∷ 56 ∷ 58 ∷ 48 ∷ 55 ∷ 0 ∷ []

-- `2024:06:15  9:58:07`, a blank and a digit
abbrev pub blank_hour : List ℕ
blank_hour = 50 ∷ 48 ∷ 50 ∷ 52 ∷ 58 ∷ 48 ∷ 54 ∷ 58 ∷ 49 ∷ 53 ∷ 32 ∷ 32 ∷ 57 ∷ 58 ∷ 53 ∷ 56 ∷ 58 ∷ 48 ∷ 55 ∷ 0 ∷ []

-- `2000:02:29 12:00:00`
abbrev pub leap_day2000 : List ℕ
leap_day2000 = 50 ∷ 48 ∷ 48 ∷ 48 ∷ 58 ∷ 48 ∷ 50 ∷ 58 ∷ 50 ∷ 57 ∷ 32 ∷ 49 ∷ 50 ∷ 58 ∷ 48 ∷ 48 ∷ 58 ∷ 48 ∷ 48 ∷ 0 ∷ []

-- `2100:02:29 12:00:00`
abbrev pub leap_day2100 : List ℕ
leap_day2100 = 50 ∷ 49 ∷ 48 ∷ 48 ∷ 58 ∷ 48 ∷ 50 ∷ 58 ∷ 50 ∷ 57 ∷ 32 ∷ 49 ∷ 50 ∷ 58 ∷ 48 ∷ 48 ∷ 58 ∷ 48 ∷ 48 ∷ 0 ∷ []

-- `2024:06:15 24:00:00`
abbrev pub hour24 : List ℕ
hour24 = 50 ∷ 48 ∷ 50 ∷ 52 ∷ 58 ∷ 48 ∷ 54 ∷ 58 ∷ 49 ∷ 53 ∷ 32 ∷ 50 ∷ 52 ∷ 58 ∷ 48 ∷ 48 ∷ 58 ∷ 48 ∷ 48 ∷ 0 ∷ []

-- `2024:06:15 23:59:59`
abbrev pub last_second : List ℕ
last_second = 50 ∷ 48 ∷ 50 ∷ 52 ∷ 58 ∷ 48 ∷ 54 ∷ 58 ∷ 49 ∷ 53 ∷ 32 ∷ 50 ∷ 51 ∷ 58 ∷ 53 ∷ 57 ∷ 58 ∷ 53 ∷ 57 ∷ 0 ∷ []
