-- What the reader of sub-second texts does. The rule for the digits stands in `hundredths_of` alone.
-- Assumes nothing.
use Rattle.std.specs.Prelude.{cond, List, [], ◌∷◌, ℕ, eqb, length, get_or}
use Rattle.refusal.specs.Said.{Said, gives, refuses}
use Rattle.exif.specs.Parts.{of_part}
use Rattle.exif.specs.Reading.{digit_of, two_at, shaped}

-- the hundredths that a whole text says: none is 0; d is any digit, as in Reading.antt
unfoldable pub hundredths_of : List ℕ → Said ℕ
hundredths_of t =
    cond (eqb (length t) 0) (gives 0)
    (cond (shaped (100 ∷ 0 ∷ []) t) (gives (digit_of (get_or t 0 0)))
    (cond (shaped (100 ∷ 100 ∷ 0 ∷ []) t) (gives (two_at t 0)) (refuses 10)))

-- what the part of a block says
unfoldable pub reads_sub_second : List ℕ → ℕ → ℕ → Said ℕ
reads_sub_second = of_part hundredths_of
