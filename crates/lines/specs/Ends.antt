-- Where lines end: a line end is LF, byte 10.
-- Assumes nothing.
use Rattle.std.specs.Prelude.{cond, List, [], ◌∷◌, ℕ, ◌+◌, eqb, length, drop}

-- the bytes before the first line end; all where there is none
unfoldable pub one_line : List ℕ → List ℕ
one_line [] = []
one_line (b ∷ s) = cond (eqb b 10) [] (b ∷ one_line s)

-- the place of the first line end from a place on; else where the bytes end
unfoldable pub end_of : List ℕ → ℕ → ℕ
end_of s at = at + length (one_line (drop at s))
