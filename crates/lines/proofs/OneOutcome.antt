-- For every input each promise leaves one answer, and one content of the buffer: any two that it allows are equal.
-- Assumes nothing.
use mathlib.Core.Path.{◌≡◌, sym, ◌∙◌}
use mathlib.Core.Bool.{Bool}
use mathlib.Core.List.{List}
use Prim.Native.Nat.{ℕ}
use Rattle.std.specs.Prelude.{Result}
use Rattle.refusal.specs.Said.{said}
use Rattle.refusal.specs.declared.Refusal.{Refusal}
use Rattle.refusal.proofs.SaidLaws.{said_one}
use Rattle.lines.specs.Line.{line_says}
use Rattle.lines.specs.Feeding.{begun, fed_line, held_line}
use Rattle.lines.specs.Ends.{end_of}
use Rattle.lines.specs.Room.{room_for, appended}
use Rattle.lines.specs.declared.Line.{Line}

pub read_line_one : (line : List ℕ) (a b : Result ℕ Refusal) → said a ≡ line_says line → said b ≡ line_says line → a ≡ b
read_line_one line a b p q = said_one a b (p ∙ sym q)

pub begin_one : (kept : List ℕ) (a b : Line) → a ≡ begun kept → b ≡ begun kept → a ≡ b
begin_one kept a b p q = p ∙ sym q

pub feed_one : (l : Line) (piece : List ℕ) (a b : Line) → a ≡ fed_line l piece → b ≡ fed_line l piece → a ≡ b
feed_one l piece a b p q = p ∙ sym q

pub finish_one : (l : Line) (a b : Result ℕ Refusal) → said a ≡ line_says (held_line l) → said b ≡ line_says (held_line l) → a ≡ b
finish_one l a b p q = said_one a b (p ∙ sym q)

pub line_end_one : (s : List ℕ) (at a b : ℕ) → a ≡ end_of s at → b ≡ end_of s at → a ≡ b
line_end_one s at a b p q = p ∙ sym q

-- the answers a, b with the bytes x, y
pub append_one : (out : List ℕ) (at : ℕ) (line : List ℕ) (a b : Bool) (x y : List ℕ) → (a ≡ room_for out at line) × (x ≡ appended out at line)
    → (b ≡ room_for out at line) × (y ≡ appended out at line) → (a ≡ b) × (x ≡ y)
append_one out at line a b x y p q = (p.0 ∙ sym q.0, p.1 ∙ sym q.1)
