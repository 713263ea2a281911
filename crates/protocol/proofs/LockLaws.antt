-- Laws of the folds over the plan (locks held, locks given up, stores done), and of the search for a slot: one more, none.
-- Assumes nothing.
use mathlib.Core.Path.{◌≡◌, refl}
use mathlib.Core.Bool.{Bool, true, false, ◌&&◌, ◌||◌}
use mathlib.Core.List.{List}
use Prim.Native.Nat.{ℕ, ◌+◌, ◌<◌}
use native.Mathlib.Omega.{arith}
use native.Mathlib.Numerals.{add-one}
use Rattle.table.specs.Free.{lowest_free}
use Rattle.protocol.specs.Plan.{action_at, is_store}
use Rattle.protocol.specs.Locks.{weight, held_one, release_one, all_held, released}
use Rattle.protocol.specs.Stores.{fit, lowest_fit}
use Rattle.protocol.specs.Calls.{stored}
use Rattle.protocol.specs.declared.Phase.{Phase}

pub held_none : (ws : List ℕ) (p : Phase) → true ≡ all_held ws p 0
unfolding all_held
held_none ws p = refl

pub held_more : (ws : List ℕ) (p : Phase) (i : ℕ) → (all_held ws p i && held_one ws (action_at p i)) ≡ all_held ws p (i + 1)
unfolding all_held
held_more ws p i = rw add-one

pub released_none : (ws : List ℕ) (p : Phase) → ws ≡ released ws p 0
unfolding released
released_none ws p = refl

pub released_more : (ws : List ℕ) (p : Phase) (i : ℕ) → release_one (released ws p i) (action_at p i) ≡ released ws p (i + 1)
unfolding released
released_more ws p i = rw add-one

pub stored_none : (p : Phase) → false ≡ stored p 0
unfolding stored
stored_none p = refl

pub stored_more : (p : Phase) (i : ℕ) → (stored p i || is_store (action_at p i)) ≡ stored p (i + 1)
unfolding stored
stored_more p i = rw add-one

pub weight_lt : (write : Bool) → weight write < 3
weight_lt true = omega arith
weight_lt false = omega arith

-- the lowest free slot, as the table's search finds it
pub lowest_free_lem : (ws : List ℕ) → lowest_free ws ≡ lowest_fit ws
unfolding lowest_free lowest_fit fit
lowest_free_lem ws = refl
