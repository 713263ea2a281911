-- The laws of the lines that are printed: a number in decimal says the number, and the text in a frame's line is read as the
-- key's date and time.
-- Assumes nothing.
use mathlib.Core.Path.{◌≡◌, refl, sym, ap, ◌∙◌}
use mathlib.Core.Bool.{Bool, true, false, cond}
use mathlib.Core.List.{List, [], ◌∷◌, ◌++◌, append_assoc}
use Prim.Native.Nat.{ℕ, zero, suc, ◌+◌, ◌*◌, ◌-◌, ◌/◌, ◌^◌, ◌<◌}
use native.Mathlib.Omega.{arith}
use lib.Dec.{ltb}
use lib.ListN.{length, take, drop, length-append, replicate}
use lib.Seq.{take_at, drop_at}
use borrow.Author.Tests.{ltb-true}
use Rattle.refusal.specs.Said.{gives}
use Rattle.moment.specs.Key.{moment_of, fields_of, legal_of}
use Rattle.exif.specs.Forms.{digit, blank, nul, two_digit_hour}
use Rattle.exif.specs.Reading.{reads_text}
use Rattle.exif.specs.Writing.{put_text}
use Rattle.exif.proofs.Writing.{written, read_after_written}
use Rattle.exif.proofs.Texts.{within_read}
use Rattle.lines.specs.Line.{value_from, value_of}
use Rattle.printed.specs.Printing.{digits_of, decimal, hex_of, text_of, line_end, frame_line}
use Rattle.printed.proofs.Puts.{hex_length}
use Rattle.printed.proofs.Texts.{text_nul, text_length}

-- A NUMBER IN DECIMAL SAYS THE NUMBER
value_append : (v : ℕ) (s t : List ℕ) → value_from v (s ++ t) ≡ value_from (value_from v s) t
unfolding value_from
value_append v [] t = refl
value_append v (b ∷ s) t = value_append (v * 10 + (b - 48)) s t

digits_say : (most n : ℕ) → n < 10 ^ most → value_from 0 (digits_of most n) ≡ n
unfolding digits_of value_from
digits_say zero n h = omega arith
digits_say (suc most) n h = here (ltb n 10) refl (digits_say most (n / 10) (omega arith))
  where
    here : (k : Bool) → ltb n 10 ≡ k → value_from 0 (digits_of most (n / 10)) ≡ n / 10
        → value_from 0 (cond k (digit n ∷ []) (digits_of most (n / 10) ++ digit n ∷ [])) ≡ n
    here true e r = let l = ltb-true n 10 e in omega arith
    here false e r = value_append 0 (digits_of most (n / 10)) (digit n ∷ []) ∙ rw r (omega arith)

pub decimal_says : (n : ℕ) → n < 2 ^ 64 → value_of (decimal n) ≡ n
unfolding value_of decimal
decimal_says n h = digits_say 20 n (omega arith)

-- THE TEXT IN A FRAME'S LINE

-- it stands behind the place, the key of 16 digits and their blanks, and has 19 bytes
pub text_in_line : (place key : ℕ) → take 19 (drop (length (decimal place) + 18) (frame_line place key)) ≡ text_of key
unfolding frame_line
text_in_line place key =
    let front = (decimal place ++ blank) ++ (hex_of 16 key ++ blank) in
    let camera = decimal (fields_of key).camera ++ blank in
    let end = decimal (fields_of key).number ++ line_end in
    let rest = blank ++ (camera ++ end) in
    let n : length front ≡ length (decimal place) + 18 = simp (length-append, hex_length 16 key) (omega arith) in
    let parts : front ++ (text_of key ++ blank) ++ camera ++ end ≡ front ++ (text_of key ++ rest) = simp append_assoc in
    ap (λ (l : List ℕ). take 19 (drop (length (decimal place) + 18) l)) parts
    ∙ ap (take 19) (drop_at front (text_of key ++ rest) (length (decimal place) + 18) n)
    ∙ take_at (text_of key) rest 19 (text_length key)

-- and with a NUL behind it it is read as the key's date and time, for every legal key
pub text_reads_back : (key : ℕ) → legal_of key ≡ true → reads_text (text_of key ++ nul) ≡ gives (moment_of (fields_of key))
unfolding put_text
text_reads_back key legal =
    let bytes : List ℕ = replicate 20 0 in
    let t = two_digit_hour (moment_of (fields_of key)) in
    let n : length t ≡ 20 = rw (text_nul key) (simp (length-append, text_length key)) in
    let after = t ++ drop 20 bytes in
    let read = read_after_written bytes 0 key after (written bytes 0 key legal (omega arith)) in
    let in-it = within_read after 0 20 (rw (length-append t (drop 20 bytes)) (omega arith)) in
    rw (← (text_nul key)) (ap reads_text (sym (take_at t (drop 20 bytes) 20 n)) ∙ sym in-it ∙ read)

pub line_reads_back : (place key : ℕ) → legal_of key ≡ true
    → reads_text (take 19 (drop (length (decimal place) + 18) (frame_line place key)) ++ nul) ≡ gives (moment_of (fields_of key))
line_reads_back place key legal = rw (text_in_line place key) (text_reads_back key legal)
