-- Capture texts and sub-second texts as document 01 writes them: lists of bytes, put together from their pieces. A colon
-- is byte 58, a blank 32, a NUL 0, the digits 48 to 57.
-- Assumes nothing.
use Rattle.std.specs.Prelude.{◌≡◌, true, List, [], ◌∷◌, ◌++◌, ℕ, ◌+◌, ◌/◌, ◌%◌, ◌<◌, replicate}
use Rattle.moment.specs.Calendar.{moment_exists}
use Rattle.moment.specs.declared.Moment.{Moment}

abbrev pub colon : List ℕ
colon = 58 ∷ []

abbrev pub blank : List ℕ
blank = 32 ∷ []

abbrev pub nul : List ℕ
nul = 0 ∷ []

abbrev pub blanks : ℕ → List ℕ
blanks n = replicate n 32

-- the last digit of a number, as a byte
abbrev pub digit : ℕ → ℕ
digit n = 48 + n % 10

-- a number's last digit, its last two, its last four
unfoldable pub one : ℕ → List ℕ
one n = digit n ∷ []

unfoldable pub two : ℕ → List ℕ
two n = digit (n / 10) ∷ digit n ∷ []

unfoldable pub four : ℕ → List ℕ
four n = two (n / 100) ++ two n

-- YYYY:MM:DD, one blank, the hour, :MM:SS, and what ends the text
unfoldable pub text : Moment → List ℕ → List ℕ → List ℕ
text m hour end =
    four m.year ++ colon ++ two m.month ++ colon ++ two m.day ++ blank
    ++ hour ++ colon ++ two m.minute ++ colon ++ two m.second ++ end

-- the hour two digits (20 bytes), a blank and a digit (20 bytes), or one digit (19 bytes, or 20 with a second NUL)
unfoldable pub two_digit_hour : Moment → List ℕ
two_digit_hour m = text m (two m.hour) nul

unfoldable pub blank_hour : Moment → List ℕ
blank_hour m = text m (blank ++ one m.hour) nul

unfoldable pub one_digit_hour : Moment → List ℕ
one_digit_hour m = text m (one m.hour) nul

unfoldable pub one_digit_hour_two_nuls : Moment → List ℕ
one_digit_hour_two_nuls m = text m (one m.hour) (nul ++ nul)

pub data HasForm (m : Moment) (t : List ℕ) : Type 0 where
  two_digits : t ≡ two_digit_hour m → HasForm m t
  blank_and_digit : m.hour < 10 → t ≡ blank_hour m → HasForm m t
  one_digit : m.hour < 10 → t ≡ one_digit_hour m → HasForm m t
  one_digit_two_nuls : m.hour < 10 → t ≡ one_digit_hour_two_nuls m → HasForm m t

-- t is a capture text of the moment m, a date and time that exist
pub record CaptureText (m : Moment) (t : List ℕ) : Type 0 where
  pub exists : moment_exists m ≡ true
  pub form : HasForm m t

-- time unknown: all blanks, or blanks with the four colons in place, 19 bytes and a NUL
abbrev pub blank_text : List ℕ
blank_text = blanks 19 ++ nul

abbrev pub colon_text : List ℕ
colon_text = blanks 4 ++ colon ++ blanks 2 ++ colon ++ blanks 5 ++ colon ++ blanks 2 ++ colon ++ blanks 2 ++ nul

pub data UnknownTime (t : List ℕ) : Type 0 where
  all_blanks : t ≡ blank_text → UnknownTime t
  four_colons : t ≡ colon_text → UnknownTime t

-- t is a sub-second text of n hundredths: absent, one digit and a NUL, or two digits and a NUL
pub data SubSecondText (n : ℕ) (t : List ℕ) : Type 0 where
  absent : n ≡ 0 → t ≡ [] → SubSecondText n t
  of_one_digit : n < 10 → t ≡ one n ++ nul → SubSecondText n t
  of_two_digits : n < 100 → t ≡ two n ++ nul → SubSecondText n t
