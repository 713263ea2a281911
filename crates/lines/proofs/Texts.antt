-- The text of a line, read with one NUL behind it.
-- Assumes nothing.
use mathlib.Core.Path.{◌≡◌, ap, ◌∙◌}
use mathlib.Core.List.{List, ◌∷◌, ◌++◌}
use Prim.Native.Nat.{ℕ, ◌+◌, ◌≤◌, ◌<◌}
use native.Mathlib.Omega.{arith}
use native.Mathlib.Nat.{zero-add}
use native.Mathlib.Numerals.{add-one}
use lib.ListN.{length, take, drop, replicate, length-append, get_or-replicate}
use lib.Seq.{sets, sets-eq, length-sets, drop-cons, take-append-add}
use Rattle.refusal.specs.Said.{refuses}
use Rattle.moment.specs.declared.Moment.{Moment}
use Rattle.exif.specs.Forms.{nul, one, two, four, text, two_digit_hour, blank_hour, one_digit_hour, one_digit_hour_two_nuls, HasForm, two_digits, blank_and_digit, one_digit, one_digit_two_nuls, UnknownTime, all_blanks, four_colons}
use Rattle.exif.specs.Reading.{reads_text, reads}
use Rattle.exif.proofs.Texts.{else_ten, within_read}

-- a capture text has at most twenty bytes, and so has the text of an unknown time
form_short : (m : Moment) (t : List ℕ) → HasForm m t → length t ≤ 20
unfolding text two four one two_digit_hour blank_hour one_digit_hour one_digit_hour_two_nuls
form_short m t (two_digits p) = rw p (omega arith)
form_short m t (blank_and_digit h p) = rw p (omega arith)
form_short m t (one_digit h p) = rw p (omega arith)
form_short m t (one_digit_two_nuls h p) = rw p (omega arith)

unknown_short : (t : List ℕ) → UnknownTime t → length t ≤ 20
unknown_short t (all_blanks p) = rw p (omega arith)
unknown_short t (four_colons p) = rw p (omega arith)

-- so a text of more than nineteen bytes, and a NUL, is refused 10
pub long_text : (t : List ℕ) → 19 < length t → reads_text (t ++ nul) ≡ refuses 10
long_text t h =
    let n = length-append t nul in
    else_ten (t ++ nul) (λ m c. let s = form_short m (t ++ nul) c.form in omega arith) (λ u. let s = unknown_short (t ++ nul) u in omega arith)

-- twenty NULs with the text at their front
pub text_behind : (t : List ℕ) → length t ≤ 19 → reads (sets (replicate 20 0) 0 t) 0 (length t + 1) ≡ reads_text (t ++ nul)
text_behind t h =
    let zs : List ℕ = replicate 20 0 in
    let n = length-sets zs 0 t in
    let z : drop (length t) zs ≡ 0 ∷ drop (length t + 1) zs = rw add-one (drop-cons zs (length t) 0 (omega arith) ∙ rw (get_or-replicate {A = ℕ} 20 (length t) 0 0 (omega arith))) in
    within_read (sets zs 0 t) 0 (length t + 1) (omega arith)
    ∙ ap reads_text (ap (take (length t + 1)) (sets-eq t zs 0 (omega arith) ∙ rw (zero-add, z)) ∙ take-append-add t (0 ∷ drop (length t + 1) zs) 1)
