-- Bytes put behind others in a buffer.
-- Assumes nothing.
use Rattle.std.specs.Prelude.{Bool, false, cond, not, List, ℕ, ◌-◌, ltb, length}
use Rattle.std.proofs.lemmas.List.Edits.{sets}

-- a line behind others in a buffer: whether there is room for it, and the buffer after that
unfoldable pub room_for : List ℕ → ℕ → List ℕ → Bool
room_for out at line = cond (ltb (length out) at) false (not (ltb (length out - at) (length line)))

unfoldable pub appended : List ℕ → ℕ → List ℕ → List ℕ
appended out at line = cond (room_for out at line) (sets out at line) out
