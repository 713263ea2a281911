-- Bytes put into a buffer, one list after another; and how long the lists are.
-- Assumes nothing.
use mathlib.Core.Path.{◌≡◌, refl, sym, ap, ◌∙◌}
use mathlib.Core.Bool.{Bool, true, false, cond}
use mathlib.Core.List.{List, [], ◌∷◌, ◌++◌}
use Prim.Native.Nat.{ℕ, zero, suc, ◌+◌, ◌-◌, ◌/◌, ◌≤◌, ◌<◌}
use native.Mathlib.Nat.{zero-add, add-suc, suc-add}
use native.Mathlib.Numerals.{sub-one}
use native.Mathlib.Omega.{arith}
use lib.Dec.{ltb}
use lib.ListN.{length, set, length-append, length-set}
use lib.Seq.{sets, set_comm}
use borrow.Author.Tests.{lt-ltb, le-ltb}
use Rattle.layout.specs.Filling.{Put}
use Rattle.layout.proofs.FillLaws.{sets_append, put_then}
use Rattle.refusal.specs.Said.{gives}
use Rattle.moment.specs.Key.{fields_of, legal_of}
use Rattle.moment.specs.declared.Fields.{Fields}
use Rattle.exif.specs.Forms.{digit, blank}
use Rattle.printed.specs.Printing.{digits_of, decimal, hex_digit, hex_of, text_of, word_line, line_end, frame_line, puts_frame, frame_holds}
use Rattle.lines.specs.Room.{room_for, appended}

-- one byte after a list
pub put_byte : {xs o o₁ o₂ : List ℕ} {at a : ℕ} (b : ℕ) → Put o at xs a o₁ → o₂ ≡ set o₁ a b → Put o at (xs ++ b ∷ []) (a + 1) o₂
put_byte b p e = put_then p (record { next = refl; holds = e })

-- bytes that are appended where there is room for them
pub put_room : (o : List ℕ) (at : ℕ) (xs o' : List ℕ) → at + length xs ≤ length o → o' ≡ appended o at xs → Put o at xs (at + length xs) o'
unfolding appended room_for
put_room o at xs o' h e =
    let in-it = le-ltb (length o) at (omega arith) in
    let room = le-ltb (length o - at) (length xs) (omega arith) in
    record { next = refl; holds = e ∙ simp (in-it, room) }

-- a byte behind a list may be put before the list is
byte_first : (xs d : List ℕ) (i x : ℕ) → sets (set d (i + length xs) x) i xs ≡ set (sets d i xs) (i + length xs) x
byte_first [] d i x = refl
byte_first (y ∷ ys) d i x =
    ap (λ (z : List ℕ). sets z (suc i) ys) (sym (set_comm d i (i + suc (length ys)) y x (λ e. omega arith)))
    ∙ rw (add-suc, ← suc-add) (byte_first ys (set d i y) (suc i) x)

pub put_before : (xs d : List ℕ) (i n x : ℕ) → length xs ≡ n → sets (set d (i + n) x) i xs ≡ sets d i (xs ++ x ∷ [])
put_before xs d i n x e = rw (← e) (byte_first xs d i x ∙ sym (sets_append xs (x ∷ []) d i))

-- the definitions by their last digit
pub digits_none : (most n : ℕ) → most ≡ 0 → digits_of most n ≡ []
unfolding digits_of
digits_none most n e = rw e

pub digits_one : (most n : ℕ) → (most ≡ 0 → ⊥) → n < 10 → digits_of most n ≡ digit n ∷ []
unfolding digits_of
digits_one zero n f h = absurd (f refl)
digits_one (suc most) n f h = rw (lt-ltb n 10 h)

pub digits_more : (most n : ℕ) → (most ≡ 0 → ⊥) → 10 ≤ n → digits_of most n ≡ digits_of (most - 1) (n / 10) ++ digit n ∷ []
unfolding digits_of
digits_more zero n f h = absurd (f refl)
digits_more (suc most) n f h = rw (sub-one, le-ltb n 10 h)

pub hex_none : (many n : ℕ) → many ≡ 0 → hex_of many n ≡ []
unfolding hex_of
hex_none many n e = rw e

pub hex_more : (many n : ℕ) → (many ≡ 0 → ⊥) → hex_of many n ≡ hex_of (many - 1) (n / 16) ++ hex_digit n ∷ []
unfolding hex_of
hex_more zero n f = absurd (f refl)
hex_more (suc many) n f = rw sub-one

-- how many there are
pub digits_few : (most n : ℕ) → length (digits_of most n) ≤ most
unfolding digits_of
digits_few zero n = omega arith
digits_few (suc most) n = here (ltb n 10) (digits_few most (n / 10))
  where
    here : (k : Bool) → length (digits_of most (n / 10)) ≤ most → length (cond k (digit n ∷ []) (digits_of most (n / 10) ++ digit n ∷ [])) ≤ suc most
    here true r = omega arith
    here false r = simp length-append (omega arith)

pub decimal_few : (n : ℕ) → length (decimal n) ≤ 20
unfolding decimal
decimal_few n = digits_few 20 n

pub hex_length : (many n : ℕ) → length (hex_of many n) ≡ many
unfolding hex_of
hex_length zero n = refl
hex_length (suc many) n = let r = hex_length many (n / 16) in simp length-append (omega arith)

-- the last digit is put, and those before it are to come
pub hex_back : (d : List ℕ) (at many n x : ℕ) → 0 < many → x ≡ hex_digit n
    → sets (set d (at + (many - 1)) x) at (hex_of (many - 1) (n / 16)) ≡ sets d at (hex_of many n)
hex_back d at many n x h e =
    put_before (hex_of (many - 1) (n / 16)) d at (many - 1) x (hex_length (many - 1) (n / 16))
    ∙ ap (λ (y : ℕ). sets d at (hex_of (many - 1) (n / 16) ++ y ∷ [])) e
    ∙ ap (sets d at) (sym (hex_more many n (λ z. omega arith)))

-- the blank is put, and then all digits
pub hex_all : (o d : List ℕ) (at key many rest : ℕ) → many ≡ 0 → sets d at (hex_of many rest) ≡ sets (set o (at + 16) 32) at (hex_of 16 key)
    → Put o at (hex_of 16 key ++ blank) (at + 17) d
hex_all o d at key many rest z e =
    record {
      next = simp (length-append, hex_length 16 key);
      holds = ap (sets d at) (sym (hex_none many rest z)) ∙ e ∙ put_before (hex_of 16 key) o at 16 32 (hex_length 16 key);
    }

pub number_few : (n b : ℕ) → length (decimal n ++ b ∷ []) ≤ 21
number_few n b = let h = decimal_few n in simp length-append (omega arith)

pub line_few : (n : ℕ) → length (word_line ++ decimal n) ≤ 25
line_few n = let h = decimal_few n in simp length-append (omega arith)

pub key_length : (key : ℕ) → length (hex_of 16 key ++ blank) ≡ 17
key_length key = simp (length-append, hex_length 16 key)

-- a frame's line, by its five parts
pub frame_put : (place key : ℕ) (f : Fields) → f ≡ fields_of key → legal_of key ≡ true → {o o₁ o₂ o₃ o₄ o₅ : List ℕ} {a b c d e : ℕ}
    → Put o 0 (decimal place ++ blank) a o₁ → Put o₁ a (hex_of 16 key ++ blank) b o₂ → Put o₂ b (text_of key ++ blank) c o₃
    → Put o₃ c (decimal f.camera ++ blank) d o₄ → Put o₄ d (decimal f.number ++ line_end) e o₅
    → (gives (e, o₅) ≡ puts_frame o place key) × (o₅ ≡ frame_holds (puts_frame o place key) o)
unfolding puts_frame frame_line
frame_put place key f is legal p q r s t =
    let line = put_then (put_then (put_then (put_then p q) r) s) t in
    let n = line.next ∙ zero-add _ in
    (simp (legal, ← is, n, line.holds), simp (legal, ← is, line.holds))

-- what the two loops over digits need
pub ruleset puts_digits = (digits_none, digits_one, digits_few)

pub ruleset puts_hex = (hex_back, length-set)
