-- What a line calls the states of a slot, the kinds of work, the phases and the sides, and their numbers.
use Rattle.std.specs.Prelude.{ℕ, List, codes}
use Rattle.script.specs.declared.names.State.{State}
use Rattle.script.specs.declared.names.State.TheVariants.{Free, Data, Routing, Deleted}
use Rattle.script.specs.declared.names.Kind.{Kind}
use Rattle.script.specs.declared.names.Kind.TheVariants.{Lookup, Insert, Remove}
use Rattle.script.specs.declared.names.Work.{Work}
use Rattle.script.specs.declared.names.Work.TheVariants.{Idle, Busy}
use Rattle.script.specs.declared.names.Phase.{Phase}
use Rattle.script.specs.declared.names.Phase.TheVariants.{Walk, OnRouting, New, Two, One, Leaf, UnderData, UnderRouting}
use Rattle.script.specs.declared.names.Side.{Side}
use Rattle.script.specs.declared.names.Side.TheVariants.{Left, Right}

abbrev pub state_name : State → List ℕ
state_name Free = codes "free"
state_name Data = codes "data"
state_name Routing = codes "routing"
state_name Deleted = codes "deleted"

abbrev pub kind_name : Kind → List ℕ
kind_name Lookup = codes "lookup"
kind_name Insert = codes "insert"
kind_name Remove = codes "remove"

abbrev pub work_name : Work → List ℕ
work_name Idle = codes "idle"
work_name (Busy kind) = kind_name kind

abbrev pub phase_name : Phase → List ℕ
phase_name Walk = codes "walk"
phase_name OnRouting = codes "on-routing"
phase_name New = codes "new"
phase_name Two = codes "two"
phase_name One = codes "one"
phase_name Leaf = codes "leaf"
phase_name UnderData = codes "under-data"
phase_name UnderRouting = codes "under-routing"

abbrev pub side_name : Side → List ℕ
side_name Left = codes "left"
side_name Right = codes "right"

abbrev pub state_number : State → ℕ
state_number Free = 0
state_number Data = 1
state_number Routing = 2
state_number Deleted = 3

abbrev pub work_number : Work → ℕ
work_number Idle = 0
work_number (Busy Lookup) = 1
work_number (Busy Insert) = 2
work_number (Busy Remove) = 3

abbrev pub phase_number : Phase → ℕ
phase_number Walk = 0
phase_number OnRouting = 1
phase_number New = 2
phase_number Two = 3
phase_number One = 4
phase_number Leaf = 5
phase_number UnderData = 6
phase_number UnderRouting = 7

abbrev pub side_number : Side → ℕ
side_number Left = 0
side_number Right = 1
