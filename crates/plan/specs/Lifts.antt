-- The phases that lift a child over the slot removed: their plans note most, and the code takes them apart by themselves.
-- Assumes nothing.
use Rattle.protocol.specs.declared.Phase.{Phase}
use Rattle.protocol.specs.declared.Phase.TheVariants.{Walk, OnRouting, New, Two, One, Leaf, UnderData, UnderRouting}

abbrev pub Lifts : Phase → Type 0
Lifts (Walk at prev before side up) = ⊥
Lifts (OnRouting this done) = ⊥
Lifts (New prev side done) = ⊥
Lifts (Two this done) = ⊥
Lifts (One this prev side child toward done) = Unit {0}
Lifts (Leaf this prev side before up) = ⊥
Lifts (UnderData this prev side done) = ⊥
Lifts (UnderRouting this prev side before up other done) = Unit {0}
