-- A field of a number: w bits at position p.
-- Assumes nothing.
use Rattle.std.specs.Prelude.{ℕ, ◌+◌, ◌*◌, ◌/◌, ◌%◌, ◌^◌}

-- the field
abbrev pub get : ℕ → ℕ → ℕ → ℕ
get p w n = n / 2 ^ p % 2 ^ w

-- the number with that field replaced by v
unfoldable pub put : ℕ → ℕ → ℕ → ℕ → ℕ
put p w n v = (n / 2 ^ (p + w) * 2 ^ w + v) * 2 ^ p + n % 2 ^ p
