-- The action that is due in a phase that neither walks nor looks, where the roles are fine; else there is none. Of the other
-- two phases none is due: the code moves these on without the plan.
-- Assumes nothing.
use Rattle.std.specs.Prelude.{cond, ℕ}
use Rattle.protocol.specs.Plan.{action_of}
use Rattle.protocol.specs.Record.{roles}
use Rattle.protocol.specs.declared.Kind.{Kind}
use Rattle.protocol.specs.declared.Phase.{Phase}
use Rattle.protocol.specs.declared.Phase.TheVariants.{Walk, OnRouting, New, Two, One, Leaf, UnderData, UnderRouting}
use Rattle.protocol.specs.declared.Action.{Action}
use Rattle.protocol.specs.declared.Action.TheVariants.{Beyond}

unfoldable pub due_at : ℕ → Kind → Phase → Action
due_at n kind p = cond (roles n kind p) (action_of p) Beyond

unfoldable pub due_of : ℕ → Kind → Phase → Action
due_of n kind (Walk at prev before side up) = Beyond
due_of n kind (OnRouting this done) = due_at n kind (OnRouting this done)
due_of n kind (New prev side done) = due_at n kind (New prev side done)
due_of n kind (Two this done) = due_at n kind (Two this done)
due_of n kind (One this prev side child toward done) = due_at n kind (One this prev side child toward done)
due_of n kind (Leaf this prev side before up) = Beyond
due_of n kind (UnderData this prev side done) = due_at n kind (UnderData this prev side done)
due_of n kind (UnderRouting this prev side before up other done) = due_at n kind (UnderRouting this prev side before up other done)
