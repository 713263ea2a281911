-- For every input each promise leaves one answer, and one content of the buffer: any two that it allows are equal.
-- Assumes nothing.
use mathlib.Core.Path.{◌≡◌, sym, ap, ◌∙◌}
use mathlib.Core.List.{List}
use Prim.Native.Nat.{ℕ}
use Rattle.layout.specs.Filling.{Put}
use Rattle.printed.specs.Printing.{frame_line_says, puts_frame, frame_holds}
use Rattle.std.specs.Prelude.{Result, Ok, Err}
use Rattle.refusal.specs.declared.Refusal.{Refusal}
use Rattle.refusal.proofs.SaidLaws.{number_one}

frame_same : (a b : Result ℕ Refusal) (x : List ℕ) → frame_line_says a x ≡ frame_line_says b x → a ≡ b
frame_same (Ok m) (Ok n) x e = let pair : ◌≡◌ {A = ℕ × List ℕ} (m, x) (n, x) = cc in ap (λ (p : ℕ × List ℕ). Ok p.0) pair
frame_same (Ok m) (Err n) x e = cc
frame_same (Err m) (Ok n) x e = cc
frame_same (Err m) (Err n) x e = ap Err (number_one m n cc)

pub frame_line_one : (out : List ℕ) (place key : ℕ) (a b : Result ℕ Refusal) (x y : List ℕ)
    → (frame_line_says a x ≡ puts_frame out place key) × (x ≡ frame_holds (puts_frame out place key) out)
    → (frame_line_says b y ≡ puts_frame out place key) × (y ≡ frame_holds (puts_frame out place key) out) → (a ≡ b) × (x ≡ y)
frame_line_one out place key a b x y p q =
    let same = p.1 ∙ sym q.1 in
    (frame_same a b x (p.0 ∙ sym (rw same q.0)), same)

-- `refused_line` and `already_line`, whatever bytes xs they put
pub put_one : (out : List ℕ) (at : ℕ) (xs : List ℕ) (a b : ℕ) (x y : List ℕ) → Put out at xs a x → Put out at xs b y → (a ≡ b) × (x ≡ y)
put_one out at xs a b x y p q = (p.next ∙ sym q.next, p.holds ∙ sym q.holds)
