-- Document 01's example of the sorting program, computed: what its two input lines say, and its two output lines.
-- Assumes nothing.
use mathlib.Core.Path.{◌≡◌, refl}
use mathlib.Core.List.{List, [], ◌∷◌}
use Prim.Native.Nat.{ℕ}
use Rattle.refusal.specs.Said.{gives}
use Rattle.moment.specs.Calendar.{leap_of, days_in, date_exists, time_exists, moment_exists}
use Rattle.moment.specs.Key.{moment_of, in_range, key_of_fields, fields_of, packs}
use Rattle.exif.specs.Forms.{two, four, text}
use Rattle.exif.specs.Reading.{is_digit, digit_of, two_at, fits_byte, shaped, unknown_of, one_digit_of, form_of as text_form, moment_at, moment_in, judges, reads_text}
use Rattle.lines.specs.Line.{has, word, behind, all_digits, is_number, value_from, value_of, front_of, form_of, fields_for, line_says}
use Rattle.printed.specs.Printing.{digits_of, decimal, hex_digit, hex_of, text_of, frame_line}

-- "1 102 2024:06:15 10:02:07" and "1 101 2024:06:15 9:58:07"
abbrev pub input₁ : List ℕ
input₁ =
    49 ∷ 32 ∷ 49 ∷ 48 ∷ 50 ∷ 32 ∷ 50 ∷ 48 ∷ 50 ∷ 52 ∷ 58 ∷ 48 ∷ 54 ∷ 58 ∷ 49 ∷ 53 ∷ 32 ∷ 49 ∷ 48 ∷ 58 ∷ 48 ∷ 50 ∷ 58 ∷
    48 ∷ 55 ∷ []

abbrev pub input₂ : List ℕ
input₂ =
    49 ∷ 32 ∷ 49 ∷ 48 ∷ 49 ∷ 32 ∷ 50 ∷ 48 ∷ 50 ∷ 52 ∷ 58 ∷ 48 ∷ 54 ∷ 58 ∷ 49 ∷ 53 ∷ 32 ∷ 57 ∷ 58 ∷ 53 ∷ 56 ∷ 58 ∷ 48 ∷
    55 ∷ []

-- 7E867A821C004066 and 7E867A7A1C004065 (hex)
abbrev pub key₁ : ℕ
key₁ = 9117109194892263526

abbrev pub key₂ : ℕ
key₂ = 9117109160532525157

-- "1 7E867A7A1C004065 2024:06:15 09:58:07 1 101" and "2 7E867A821C004066 2024:06:15 10:02:07 1 102"
abbrev pub output₁ : List ℕ
output₁ =
    49 ∷ 32 ∷ 55 ∷ 69 ∷ 56 ∷ 54 ∷ 55 ∷ 65 ∷ 55 ∷ 65 ∷ 49 ∷ 67 ∷ 48 ∷ 48 ∷ 52 ∷ 48 ∷ 54 ∷ 53 ∷ 32 ∷ 50 ∷ 48 ∷ 50 ∷ 52 ∷
    58 ∷ 48 ∷ 54 ∷ 58 ∷ 49 ∷ 53 ∷ 32 ∷ 48 ∷ 57 ∷ 58 ∷ 53 ∷ 56 ∷ 58 ∷ 48 ∷ 55 ∷ 32 ∷ 49 ∷ 32 ∷ 49 ∷ 48 ∷ 49 ∷ 10 ∷ []

abbrev pub output₂ : List ℕ
output₂ =
    50 ∷ 32 ∷ 55 ∷ 69 ∷ 56 ∷ 54 ∷ 55 ∷ 65 ∷ 56 ∷ 50 ∷ 49 ∷ 67 ∷ 48 ∷ 48 ∷ 52 ∷ 48 ∷ 54 ∷ 54 ∷ 32 ∷ 50 ∷ 48 ∷ 50 ∷ 52 ∷
    58 ∷ 48 ∷ 54 ∷ 58 ∷ 49 ∷ 53 ∷ 32 ∷ 49 ∷ 48 ∷ 58 ∷ 48 ∷ 50 ∷ 58 ∷ 48 ∷ 55 ∷ 32 ∷ 49 ∷ 32 ∷ 49 ∷ 48 ∷ 50 ∷ 10 ∷ []

pub example : (line_says input₁ ≡ gives key₁) × (line_says input₂ ≡ gives key₂) × (frame_line 1 key₂ ≡ output₁) × (frame_line 2 key₁ ≡ output₂)
unfolding has word behind all_digits is_number value_from value_of front_of form_of fields_for line_says is_digit digit_of two_at fits_byte shaped unknown_of one_digit_of text_form moment_at moment_in judges reads_text leap_of days_in date_exists time_exists moment_exists moment_of in_range key_of_fields fields_of packs two four text digits_of decimal hex_digit hex_of text_of frame_line
example = (refl, refl, refl, refl)
