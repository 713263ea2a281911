-- A line of the sorting program, as the list of its bytes without its line end: its form, and what it says. A blank is
-- byte 32, a NUL 0.
-- Assumes nothing.
use Rattle.std.specs.Prelude.{◌≡◌, Option, Some, None, Bool, true, false, cond, ◌&&◌, ◌||◌, List, [], ◌∷◌, ◌++◌, ℕ, ◌+◌, ◌*◌, ◌-◌, leb, ltb, eqb, length}
use Rattle.std.specs.Borrow.{Bor}
use Rattle.refusal.specs.Said.{Said, gives, refuses}
use Rattle.moment.specs.Key.{packs}
use Rattle.moment.specs.declared.Fields.{Fields}
use Rattle.moment.specs.declared.Moment.{Moment}
use Rattle.exif.specs.Forms.{blank, nul}
use Rattle.exif.specs.Reading.{is_digit, reads_text}

-- whether a byte of the list is this one
unfoldable pub has : ℕ → List ℕ → Bool
has byte [] = false
has byte (b ∷ s) = eqb b byte || has byte s

-- what stands before the first blank, and what stands behind it
unfoldable pub word : List ℕ → List ℕ
word [] = []
word (b ∷ s) = cond (eqb b 32) [] (b ∷ word s)

unfoldable pub behind : List ℕ → List ℕ
behind [] = []
behind (b ∷ s) = cond (eqb b 32) s (behind s)

unfoldable pub all_digits : List ℕ → Bool
all_digits [] = true
all_digits (b ∷ s) = is_digit b && all_digits s

-- one to five decimal digits
unfoldable pub is_number : List ℕ → Bool
is_number w = leb 1 (length w) && leb (length w) 5 && all_digits w

-- the number that digits say, behind those that said v
unfoldable pub value_from : ℕ → List ℕ → ℕ
value_from v [] = v
value_from v (b ∷ s) = value_from (v * 10 + (b - 48)) s

unfoldable pub value_of : List ℕ → ℕ
value_of = value_from 0

-- the front of a list: a number and one blank, with what stands behind them; or neither
pub data Front : Type 0 where
  number : ℕ → List ℕ → Front
  none : Front

unfoldable pub front_of : List ℕ → Front
front_of s = cond (has 32 s && is_number (word s)) (number (value_of (word s)) (behind s)) none

-- the form of a line: camera, blank, file number, blank, and any bytes, even none. A NUL anywhere breaks it.
pub data Form : Type 0 where
  form : ℕ → ℕ → List ℕ → Form
  broken : Form

abbrev pub with_number : ℕ → Front → Form
with_number camera (number n text) = form camera n text
with_number camera none = broken

abbrev pub with_camera : Front → Form
with_camera (number camera rest) = with_number camera (front_of rest)
with_camera none = broken

unfoldable pub form_of : List ℕ → Form
form_of line = cond (has 0 line) broken (with_camera (front_of line))

-- the same in document 01's words, which Forms.antt of proofs/ shows it to be: camera, blank, file number, blank, text
pub record Formed (line : List ℕ) (camera n : ℕ) (text : List ℕ) : Type 0 where
  pub first : List ℕ
  pub second : List ℕ
  pub is : line ≡ first ++ blank ++ second ++ blank ++ text
  pub camera_digits : is_number first ≡ true
  pub number_digits : is_number second ≡ true
  pub camera_is : value_of first ≡ camera
  pub number_is : value_of second ≡ n
  pub no_nul : has 0 line ≡ false

-- the fields of a frame: the moment of its text, hundredth 0
unfoldable pub fields_for : Moment → ℕ → ℕ → Fields
fields_for m camera n = record { moment = m; hundredth = 0; camera = camera; number = n }

-- the key of a text that is read, or the text's refusal
abbrev pub keyed : ℕ → ℕ → Said Moment → Said ℕ
keyed camera n (gives m) = packs (fields_for m camera n)
keyed camera n (refuses r) = refuses r

-- 10 for a broken form; then 3 for camera or number; then what the reader of capture texts says with one NUL put behind
abbrev pub form_says : Form → Said ℕ
form_says (form camera n text) = cond (ltb 31 camera || ltb 9999 n) (refuses 3) (keyed camera n (reads_text (text ++ nul)))
form_says broken = refuses 10

-- WHAT A LINE SAYS: the key of its frame, or its refusal
unfoldable pub line_says : List ℕ → Said ℕ
line_says line = form_says (form_of line)

-- what the code's answer says, for a number at the front and what stands behind its blank
abbrev pub number_says : Option (ℕ × Bor (List ℕ)) → Front
number_says (Some p) = number p.0 p.1.now
number_says None = none
