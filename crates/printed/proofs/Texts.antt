-- The text of a frame's line: written with a NUL, whose place a blank takes.
-- Assumes nothing.
use mathlib.Core.Path.{◌≡◌, refl, sym, ap, ◌∙◌}
use mathlib.Core.Bool.{true}
use mathlib.Core.List.{List, ◌++◌, append_assoc}
use Prim.Native.Nat.{ℕ, ◌+◌, ◌≤◌}
use native.Mathlib.Omega.{arith}
use lib.ListN.{length, set, length-append}
use lib.Seq.{set-set, drop-drop, sets, sets-eq}
use Rattle.layout.specs.Filling.{Put}
use Rattle.layout.proofs.FillLaws.{sets_append}
use Rattle.moment.specs.Key.{moment_of, fields_of, legal_of}
use Rattle.exif.specs.Forms.{blank, nul, two, four, text, two_digit_hour}
use Rattle.exif.specs.Writing.{put_text, writes, leaves}
use Rattle.exif.proofs.Writing.{written}
use Rattle.printed.specs.Printing.{text_of}

pub text_nul : (key : ℕ) → two_digit_hour (moment_of (fields_of key)) ≡ text_of key ++ nul
unfolding text_of two_digit_hour text two four
text_nul key = refl

pub text_length : (key : ℕ) → length (text_of key) ≡ 19
unfolding text_of text two four
text_length key = refl

pub text_blank : (key : ℕ) → length (text_of key ++ blank) ≡ 20
text_blank key = simp (length-append, text_length key)

put_sets : (o : List ℕ) (at : ℕ) (t : List ℕ) → length t ≡ 20 → at + 20 ≤ length o → put_text o at t ≡ sets o at t
unfolding put_text
put_sets o at t n h = rw (drop-drop 20 at o) (sym (sets-eq t o at (omega arith) ∙ simp (n, append_assoc)))

-- the blank takes the place of its NUL
pub text_put : (o : List ℕ) (at key : ℕ) (o₁ : List ℕ) → at + 20 ≤ length o → legal_of key ≡ true → o₁ ≡ leaves (writes o at key) o
    → Put o at (text_of key ++ blank) (at + 20) (set o₁ (at + 19) 32)
text_put o at key o₁ h l e =
    let t = text_of key in
    let n = text_length key in
    let w : o₁ ≡ put_text o at (two_digit_hour (moment_of (fields_of key))) = rw (written o at key l h) at e in
    let p : sets o at (t ++ nul) ≡ set (sets o at t) (at + 19) 0 = rw (sets_append t nul o at, n) in
    let q = put_sets o at (t ++ nul) (simp (length-append, n)) h in
    record {
      next = simp (length-append, n);
      holds = ap (λ (z : List ℕ). set z (at + 19) 32) (w ∙ ap (put_text o at) (text_nul key) ∙ q ∙ p)
          ∙ set-set (sets o at t) (at + 19) 0 32 ∙ rw (sets_append t blank o at, n);
    }
