-- An action that takes no lock holds none and gives none up; one that takes a lock is judged and given up by what it holds.
-- Assumes nothing.
use mathlib.Core.Path.{◌≡◌, refl}
use mathlib.Core.Bool.{true}
use mathlib.Core.List.{List}
use Prim.Native.Nat.{ℕ}
use Rattle.protocol.specs.Locks.{held_one, release_one}
use Rattle.protocol.specs.declared.Action.{Action}
use Rattle.protocol.specs.declared.Action.TheVariants.{Visit, Look, Lock, Mark, Link, Take, End, Beyond}
use Rattle.plan.specs.Holds.{hold_in}
use Rattle.locks.specs.Holding.{held_by, freed_by}

abbrev pub Frees : Action → Type 0
Frees (Visit at prev before side up) = Unit {0}
Frees (Look this prev side before up) = Unit {0}
Frees (Lock slot which write state links) = ⊥
Frees (Mark slot to) = Unit {0}
Frees (Link slot side to) = Unit {0}
Frees (Take prev side) = Unit {0}
Frees End = Unit {0}
Frees Beyond = Unit {0}

pub free_held : (ws : List ℕ) (a : Action) → Frees a → held_one ws a ≡ true
unfolding held_one
free_held ws (Visit at prev before side up) t = refl
free_held ws (Look this prev side before up) t = refl
free_held ws (Lock slot which write state links) t = absurd t
free_held ws (Mark slot to) t = refl
free_held ws (Link slot side to) t = refl
free_held ws (Take prev side) t = refl
free_held ws End t = refl
free_held ws Beyond t = refl

pub free_released : (ws : List ℕ) (a : Action) → Frees a → release_one ws a ≡ ws
unfolding release_one
free_released ws (Visit at prev before side up) t = refl
free_released ws (Look this prev side before up) t = refl
free_released ws (Lock slot which write state links) t = absurd t
free_released ws (Mark slot to) t = refl
free_released ws (Link slot side to) t = refl
free_released ws (Take prev side) t = refl
free_released ws End t = refl
free_released ws Beyond t = refl

abbrev pub Takes : Action → Type 0
Takes a = Frees a → ⊥

pub lock_held : (ws : List ℕ) (a : Action) → Takes a → held_by ws (hold_in a) ≡ held_one ws a
unfolding held_by hold_in held_one
lock_held ws (Visit at prev before side up) t = absurd (t tt)
lock_held ws (Look this prev side before up) t = absurd (t tt)
lock_held ws (Lock slot which write state links) t = refl
lock_held ws (Mark slot to) t = absurd (t tt)
lock_held ws (Link slot side to) t = absurd (t tt)
lock_held ws (Take prev side) t = absurd (t tt)
lock_held ws End t = absurd (t tt)
lock_held ws Beyond t = absurd (t tt)

pub lock_freed : (ws : List ℕ) (a : Action) → Takes a → freed_by ws (hold_in a) ≡ release_one ws a
unfolding freed_by hold_in release_one
lock_freed ws (Visit at prev before side up) t = absurd (t tt)
lock_freed ws (Look this prev side before up) t = absurd (t tt)
lock_freed ws (Lock slot which write state links) t = refl
lock_freed ws (Mark slot to) t = absurd (t tt)
lock_freed ws (Link slot side to) t = absurd (t tt)
lock_freed ws (Take prev side) t = absurd (t tt)
lock_freed ws End t = absurd (t tt)
lock_freed ws Beyond t = absurd (t tt)
