-- A layout is a list of widths, from the top bit down; a field is its place in that list. Nothing here names a width.
-- Assumes nothing.
use Rattle.std.specs.Prelude.{List, [], ◌∷◌, ℕ, suc, ◌+◌, ◌*◌, ◌^◌, ◌<◌, get_or, drop}
use Rattle.layout.specs.Word.{get, put}

-- how many bits the layout has
abbrev pub total : List ℕ → ℕ
total [] = 0
total (w ∷ ws) = w + total ws

-- where field i begins, counted from the lowest bit, and how wide it is
abbrev pub pos : List ℕ → ℕ → ℕ
pos ws i = total (drop (suc i) ws)

abbrev pub wid : List ℕ → ℕ → ℕ
wid ws i = get_or ws i 0

-- field i of the number n, and n with that field replaced
abbrev pub fld : List ℕ → ℕ → ℕ → ℕ
fld ws i n = get (pos ws i) (wid ws i) n

abbrev pub fld_set : List ℕ → ℕ → ℕ → ℕ → ℕ
fld_set ws i n v = put (pos ws i) (wid ws i) n v

-- all fields put into one number, and taken out of one
abbrev pub enc : List ℕ → List ℕ → ℕ
enc [] vs = 0
enc (w ∷ ws) [] = 0
enc (w ∷ ws) (v ∷ vs) = v * 2 ^ total ws + enc ws vs

abbrev pub dec : List ℕ → ℕ → List ℕ
dec [] n = []
dec (w ∷ ws) n = get (total ws) w n ∷ dec ws n

-- as many values as there are fields, each within its width
abbrev pub Fit : List ℕ → List ℕ → Type 0
Fit [] [] = Unit {0}
Fit [] (v ∷ vs) = ⊥
Fit (w ∷ ws) [] = ⊥
Fit (w ∷ ws) (v ∷ vs) = (v < 2 ^ w) × Fit ws vs

-- the positions and the sizes as lists, as code has them in tables
abbrev pub poses : List ℕ → List ℕ
poses [] = []
poses (w ∷ ws) = total ws ∷ poses ws

abbrev pub pows : List ℕ → List ℕ
pows [] = []
pows (w ∷ ws) = 2 ^ w ∷ pows ws

-- a fact of each entry of a list
abbrev pub All : (ℕ → Type 0) → List ℕ → Type 0
All P [] = Unit {0}
All P (x ∷ xs) = P x × All P xs
