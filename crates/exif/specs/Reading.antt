-- What the reader of capture texts does. `proofs/Texts.antt` shows that it accepts just the texts of Forms.antt.
-- Assumes nothing.
use Rattle.std.specs.Prelude.{Bool, true, false, cond, ◌&&◌, ◌||◌, List, [], ◌∷◌, ◌++◌, ℕ, ◌+◌, ◌-◌, ◌*◌, leb, eqb, get_or}
use Rattle.refusal.specs.Said.{Said, gives, refuses}
use Rattle.moment.specs.Calendar.{moment_exists}
use Rattle.moment.specs.declared.Moment.{Moment}
use Rattle.exif.specs.Parts.{of_part}
use Rattle.exif.specs.Forms.{colon, blank, nul, blank_text, colon_text}
use Rattle.exif.specs.declared.HourForm.{HourForm}
use Rattle.exif.specs.declared.HourForm.TheVariants.{TwoDigits, BlankAndDigit, OneDigit}

-- whether a byte is a digit
unfoldable pub is_digit : ℕ → Bool
is_digit b = leb 48 b && leb b 57

-- the value of a digit; 0 for any other byte
unfoldable pub digit_of : ℕ → ℕ
digit_of b = cond (is_digit b) (b - 48) 0

-- the number that two digits at a place of a text say
unfoldable pub two_at : List ℕ → ℕ → ℕ
two_at t i = digit_of (get_or t i 0) * 10 + digit_of (get_or t (i + 1) 0)

-- in a form the letter d (byte 100) stands for any digit, and every other byte for itself
unfoldable pub fits_byte : ℕ → ℕ → Bool
fits_byte kind b = cond (eqb kind 100) (is_digit b) (eqb b kind)

-- whether a whole text has a form
unfoldable pub shaped : List ℕ → List ℕ → Bool
shaped [] [] = true
shaped [] (b ∷ t) = false
shaped (kind ∷ form) [] = false
shaped (kind ∷ form) (b ∷ t) = fits_byte kind b && shaped form t

abbrev d : List ℕ
d = 100 ∷ []

abbrev dd : List ℕ
dd = 100 ∷ 100 ∷ []

-- the forms of the texts of Forms.antt
abbrev text_form : List ℕ → List ℕ → List ℕ
text_form hour end = dd ++ dd ++ colon ++ dd ++ colon ++ dd ++ blank ++ hour ++ colon ++ dd ++ colon ++ dd ++ end

abbrev pub two_digit_form : List ℕ
two_digit_form = text_form dd nul

abbrev pub blank_hour_form : List ℕ
blank_hour_form = text_form (blank ++ d) nul

abbrev pub one_digit_form : List ℕ
one_digit_form = text_form d nul

abbrev pub two_nuls_form : List ℕ
two_nuls_form = text_form d (nul ++ nul)

-- whether the time is unknown
unfoldable pub unknown_of : List ℕ → Bool
unknown_of t = shaped blank_text t || shaped colon_text t

-- whether the hour is one digit
unfoldable pub one_digit_of : List ℕ → Bool
one_digit_of t = shaped one_digit_form t || shaped two_nuls_form t

-- how the hour is written; 12 for an unknown time, which comes first, and 10 for a text of no form
unfoldable pub form_of : List ℕ → Said HourForm
form_of t =
    cond (unknown_of t) (refuses 12)
    (cond (shaped two_digit_form t) (gives TwoDigits)
    (cond (shaped blank_hour_form t) (gives BlankAndDigit)
    (cond (one_digit_of t) (gives OneDigit) (refuses 10))))

-- the six fields of a text, its hour given, with :MM:SS at a place
unfoldable pub moment_at : List ℕ → ℕ → ℕ → Moment
moment_at t hour place =
    record {
      year = two_at t 0 * 100 + two_at t 2;
      month = two_at t 5;
      day = two_at t 8;
      hour = hour;
      minute = two_at t (place + 1);
      second = two_at t (place + 4);
    }

-- the six fields of a text whose hour is written so
unfoldable pub moment_in : List ℕ → HourForm → Moment
moment_in t TwoDigits = moment_at t (two_at t 11) 13
moment_in t BlankAndDigit = moment_at t (digit_of (get_or t 12 0)) 13
moment_in t OneDigit = moment_at t (digit_of (get_or t 11 0)) 12

-- a date or a time that does not exist is 10
unfoldable pub judges : Moment → Said Moment
judges m = cond (moment_exists m) (gives m) (refuses 10)

-- the moment by the form of the hour, or the refusal
abbrev pub by_form : List ℕ → Said HourForm → Said Moment
by_form t (gives hour) = judges (moment_in t hour)
by_form t (refuses n) = refuses n

-- what a whole text says
unfoldable pub reads_text : List ℕ → Said Moment
reads_text t = by_form t (form_of t)

-- what the part of a block says
unfoldable pub reads : List ℕ → ℕ → ℕ → Said Moment
reads = of_part reads_text
