-- A numeral is ASCII, and so it is UTF-8.
use Rattle.std.proofs.Common.{ℕ, List, [], ◌∷◌, ◌≤◌, ◌<◌, zero, suc, IsAscii, IsUtf8, arith}
use Rattle.std.specs.Char.{digit_value}
use Rattle.std.specs.Str.Parse.{AllDigits, IsNumeral}
use Rattle.std.proofs.lemmas.Str.{IsUtf8-from_ascii}

digit_ascii : (c : ℕ) → digit_value c < 36 → c < 128
digit_ascii c low = grind arith

digits_ascii : (radix : ℕ) (bs : List ℕ) → radix ≤ 36 → AllDigits radix bs → IsAscii bs
digits_ascii radix [] few digits i = omega arith
digits_ascii radix (c ∷ cs) few digits zero = let first : digit_value c < radix = digits.0 in digit_ascii c (omega arith)
digits_ascii radix (c ∷ cs) few digits (suc i) = digits_ascii radix cs few digits.1 i

pub numeral_utf8 : (radix : ℕ) (bs : List ℕ) → radix ≤ 36 → IsNumeral radix bs → IsUtf8 bs
numeral_utf8 radix bs few numeral = IsUtf8-from_ascii bs (digits_ascii radix bs few numeral.1)
