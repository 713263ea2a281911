-- A run of values put into a list buffer.
-- Assumes nothing.
use Rattle.std.specs.Prelude.{◌≡◌, List, ℕ, ◌+◌, length}
use Rattle.std.proofs.lemmas.List.Edits.{sets}

-- xs is put into o from at on, which leaves o', and r is the next place
pub record Put (o : List ℕ) (at : ℕ) (xs : List ℕ) (r : ℕ) (o' : List ℕ) : Type 0 where
  pub next : r ≡ at + length xs
  pub holds : o' ≡ sets o at xs
