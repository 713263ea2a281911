-- A line that is fed in pieces: its first 32 bytes are kept, and of the others whether one of them was a NUL. 32 bytes
-- decide: of a line that is longer the text has more than 19 bytes, and is no capture text.
-- Assumes nothing.
use Rattle.std.specs.Prelude.{cond, false, ◌||◌, List, [], ◌∷◌, ◌++◌, ℕ, ◌+◌, ◌-◌, length, take, drop}
use Rattle.std.proofs.lemmas.List.Edits.{sets}
use Rattle.refusal.specs.Said.{Said}
use Rattle.exif.specs.Forms.{nul}
use Rattle.lines.specs.Line.{has, line_says}
use Rattle.lines.specs.declared.Line.{Line}

-- before the first byte, whatever bytes are there
abbrev pub begun : List ℕ → Line
begun kept = record { kept = kept; len = 0; nul = false }

-- a piece more: the bytes kept, how many, and whether a NUL was among the others
unfoldable pub fed_line : Line → List ℕ → Line
fed_line l piece =
    record {
      kept = sets l.kept l.len (take (32 - l.len) piece);
      len = l.len + length (take (32 - l.len) piece);
      nul = l.nul || has 0 (drop (32 - l.len) piece);
    }

-- the line that the end of the input or of the line is judged by
unfoldable pub held_line : Line → List ℕ
held_line l = take l.len l.kept ++ cond l.nul nul []

-- what is said of a line that comes in these pieces
unfoldable pub fed_says : Line → List (List ℕ) → Said ℕ
fed_says l [] = line_says (held_line l)
fed_says l (piece ∷ pieces) = fed_says (fed_line l piece) pieces

-- the pieces put together
unfoldable pub whole : List (List ℕ) → List ℕ
whole [] = []
whole (piece ∷ pieces) = piece ++ whole pieces
