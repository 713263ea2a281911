-- The lines that the sorting program prints, as lists of bytes. A blank is byte 32, LF 10; the words are spelt in ASCII.
-- Assumes nothing.
use Rattle.std.specs.Prelude.{Result, Ok, Err, cond, List, [], ◌∷◌, ◌++◌, ℕ, zero, suc, ◌+◌, ◌/◌, ◌%◌, ltb, length}
use Rattle.std.proofs.lemmas.List.Edits.{sets}
use Rattle.refusal.specs.Said.{Said, gives, refuses, number}
use Rattle.moment.specs.Key.{moment_of, fields_of, legal_of}
use Rattle.exif.specs.Forms.{digit, two, text, blank}
use Rattle.refusal.specs.declared.Refusal.{Refusal}

-- a number in decimal without padding, of at most so many digits; twenty do for 64 bits
unfoldable pub digits_of : ℕ → ℕ → List ℕ
digits_of zero n = []
digits_of (suc most) n = cond (ltb n 10) (digit n ∷ []) (digits_of most (n / 10) ++ digit n ∷ [])

unfoldable pub decimal : ℕ → List ℕ
decimal n = digits_of 20 n

-- the last so many upper-case hex digits of a number
unfoldable pub hex_digit : ℕ → ℕ
hex_digit n = cond (ltb (n % 16) 10) (48 + n % 16) (55 + n % 16)

unfoldable pub hex_of : ℕ → ℕ → List ℕ
hex_of zero n = []
hex_of (suc many) n = hex_of many (n / 16) ++ hex_digit n ∷ []

-- the two-digit text of a key's date and time, without its NUL
unfoldable pub text_of : ℕ → List ℕ
text_of key = let m = moment_of (fields_of key) in text m (two m.hour) []

abbrev pub line_end : List ℕ
line_end = 10 ∷ []

-- A FRAME'S LINE: place, key as 16 upper-case hex digits, two-digit text, camera, file number
unfoldable pub frame_line : ℕ → ℕ → List ℕ
frame_line place key =
    (decimal place ++ blank) ++ (hex_of 16 key ++ blank) ++ (text_of key ++ blank)
    ++ (decimal (fields_of key).camera ++ blank) ++ (decimal (fields_of key).number ++ line_end)

-- "line ", " refused ", " already"
abbrev pub word_line : List ℕ
word_line = 108 ∷ 105 ∷ 110 ∷ 101 ∷ 32 ∷ []

abbrev pub word_refused : List ℕ
word_refused = 32 ∷ 114 ∷ 101 ∷ 102 ∷ 117 ∷ 115 ∷ 101 ∷ 100 ∷ 32 ∷ []

abbrev pub word_already : List ℕ
word_already = 32 ∷ 97 ∷ 108 ∷ 114 ∷ 101 ∷ 97 ∷ 100 ∷ 121 ∷ []

-- `line N refused R`, `line N already`
unfoldable pub refused_line : ℕ → ℕ → List ℕ
refused_line n r = word_line ++ decimal n ++ word_refused ++ (decimal r ++ line_end)

unfoldable pub already_line : ℕ → List ℕ
already_line n = word_line ++ decimal n ++ (word_already ++ line_end)

-- what the answer for a frame's line says, with the buffer after the call: the line at its front, or 3 for a key that is not legal
abbrev pub frame_line_says : Result ℕ Refusal → List ℕ → Said (ℕ × List ℕ)
frame_line_says (Ok n) after = gives (n, after)
frame_line_says (Err e) after = refuses (number e)

unfoldable pub puts_frame : List ℕ → ℕ → ℕ → Said (ℕ × List ℕ)
puts_frame out place key = cond (legal_of key) (gives (length (frame_line place key), sets out 0 (frame_line place key))) (refuses 3)

-- a refusal leaves the buffer as it was
abbrev pub frame_holds : Said (ℕ × List ℕ) → List ℕ → List ℕ
frame_holds (gives line) before = line.1
frame_holds (refuses n) before = before
