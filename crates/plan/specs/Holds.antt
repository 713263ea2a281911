-- What a lock holds: the slot, which of its locks, and whether it is written. It is taken out of the plan's action: of one that
-- takes no lock it is a fixed one, for which nobody asks.
-- Assumes nothing.
use Rattle.std.specs.Prelude.{Bool, true, ℕ}
use Rattle.table.specs.declared.Which.TheVariants.{State, Edge}
use Rattle.protocol.specs.declared.Action.{Action}
use Rattle.protocol.specs.declared.Action.TheVariants.{Visit, Look, Lock, Mark, Link, Take, End, Beyond}
use Rattle.plan.specs.declared.Hold.{Hold}

abbrev pub edge_hold : ℕ → Bool → Bool → Hold
edge_hold slot side write = record { slot = slot; which = Edge side; write = write }

abbrev pub state_hold : ℕ → Bool → Hold
state_hold slot write = record { slot = slot; which = State; write = write }

abbrev pub no_hold : Hold
no_hold = state_hold 0 true

unfoldable pub hold_in : Action → Hold
hold_in (Visit at prev before side up) = no_hold
hold_in (Look this prev side before up) = no_hold
hold_in (Lock slot which write state links) = record { slot = slot; which = which; write = write }
hold_in (Mark slot to) = no_hold
hold_in (Link slot side to) = no_hold
hold_in (Take prev side) = no_hold
hold_in End = no_hold
hold_in Beyond = no_hold
