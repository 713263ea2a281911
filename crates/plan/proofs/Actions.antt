-- What holds of all actions of a plan, and of what stands past its end, holds at every place.
-- Assumes nothing.
use mathlib.Core.List.{List, [], ◌∷◌}
use Prim.Native.Nat.{ℕ, zero, suc}
use lib.ListN.{get_or}
use Rattle.protocol.specs.declared.Action.{Action}
use Rattle.protocol.specs.declared.Action.TheVariants.{Beyond}
use Rattle.protocol.proofs.Together.Wishes.{All}

pub all_at : (P : Action → Type 0) → P Beyond → (l : List Action) → All P l → (i : ℕ) → P (get_or l i Beyond)
all_at P b [] h i = b
all_at P b (a ∷ rest) h zero = h.0
all_at P b (a ∷ rest) h (suc i) = all_at P b rest h.1 i
