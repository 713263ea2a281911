-- For every input each promise leaves one answer, and one content of the buffer: any two that it allows are equal.
-- Assumes nothing.
use mathlib.Core.Path.{◌≡◌, refl, sym, ap, ◌∙◌}
use mathlib.Core.List.{List}
use Prim.Native.Nat.{ℕ}
use Rattle.std.specs.Prelude.{Result, Ok, Err}
use Rattle.refusal.specs.Said.{said}
use Rattle.refusal.specs.declared.Refusal.{Refusal}
use Rattle.refusal.proofs.SaidLaws.{number_one, said_one}
use Rattle.moment.specs.declared.Moment.{Moment}
use Rattle.exif.specs.Reading.{reads}
use Rattle.exif.specs.SubSecond.{reads_sub_second}
use Rattle.exif.specs.Writing.{writes, leaves, written_says}

written_same : (a b : Result Unit Refusal) (x : List ℕ) → written_says a x ≡ written_says b x → a ≡ b
written_same (Ok m) (Ok n) x e = refl
written_same (Ok m) (Err n) x e = cc
written_same (Err m) (Ok n) x e = cc
written_same (Err m) (Err n) x e = ap Err (number_one m n cc)

pub read_text_one : (block : List ℕ) (place n : ℕ) (a b : Result Moment Refusal) → said a ≡ reads block place n → said b ≡ reads block place n → a ≡ b
read_text_one block place n a b p q = said_one a b (p ∙ sym q)

pub read_sub_second_one : (block : List ℕ) (place n : ℕ) (a b : Result ℕ Refusal) → said a ≡ reads_sub_second block place n
    → said b ≡ reads_sub_second block place n → a ≡ b
read_sub_second_one block place n a b p q = said_one a b (p ∙ sym q)

-- the answers a, b with the buffers x, y
pub write_text_one : (buffer : List ℕ) (place key : ℕ) (a b : Result Unit Refusal) (x y : List ℕ)
    → written_says a x ≡ writes buffer place key → x ≡ leaves (writes buffer place key) buffer
    → written_says b y ≡ writes buffer place key → y ≡ leaves (writes buffer place key) buffer → (a ≡ b) × (x ≡ y)
write_text_one buffer place key a b x y p hx q hy =
    let same = hx ∙ sym hy in
    (written_same a b x (p ∙ sym (rw same q)), same)
