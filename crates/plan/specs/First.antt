-- How many locks a case takes. They come first in its plan: `locks/proofs/First.antt` has that so many actions are locks, and no
-- later one.
-- Assumes nothing.
use Rattle.std.specs.Prelude.{ℕ}
use Rattle.protocol.specs.declared.Phase.{Phase}
use Rattle.protocol.specs.declared.Phase.TheVariants.{Walk, OnRouting, New, Two, One, Leaf, UnderData, UnderRouting}

abbrev pub locks_of : Phase → ℕ
locks_of (Walk at prev before side up) = 0
locks_of (OnRouting this done) = 1
locks_of (New prev side done) = 2
locks_of (Two this done) = 1
locks_of (One this prev side child toward done) = 3
locks_of (Leaf this prev side before up) = 0
locks_of (UnderData this prev side done) = 3
locks_of (UnderRouting this prev side before up other done) = 5
