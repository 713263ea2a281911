-- What a case's only lock holds; and that the first two locks under a routing parent hold what they hold under data.
-- Assumes nothing.
use mathlib.Core.Path.{◌≡◌, refl}
use mathlib.Core.Bool.{Bool, true}
use Prim.Native.Nat.{ℕ, zero, suc, ◌<◌}
use native.Mathlib.Omega.{arith}
use Rattle.protocol.specs.Plan.{plan, action_at}
use Rattle.protocol.specs.declared.Phase.TheVariants.{OnRouting, Two, UnderData, UnderRouting}
use Rattle.plan.specs.Holds.{state_hold, hold_in}

pub on_routing_held : (this done i : ℕ) → i < 1 → state_hold this true ≡ hold_in (action_at (OnRouting this done) i)
unfolding hold_in action_at plan
on_routing_held this done zero h = refl
on_routing_held this done (suc i) h = absurd (omega (arith, h))

pub two_held : (this done i : ℕ) → i < 1 → state_hold this true ≡ hold_in (action_at (Two this done) i)
unfolding hold_in action_at plan
two_held this done zero h = refl
two_held this done (suc i) h = absurd (omega (arith, h))

pub first_two : (this prev : ℕ) (side : Bool) (before : ℕ) (up : Bool) (other d e i : ℕ) → i < 2
    → hold_in (action_at (UnderData this prev side d) i) ≡ hold_in (action_at (UnderRouting this prev side before up other e) i)
unfolding hold_in action_at plan
first_two this prev side before up other d e zero h = refl
first_two this prev side before up other d e (suc zero) h = refl
first_two this prev side before up other d e (suc (suc i)) h = absurd (omega (arith, h))
