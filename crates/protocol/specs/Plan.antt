-- What each case does, as data: document 01's "Locks", line by line. There is one plan: the code, and whatever is proved
-- of workers together, take locks, expectations and stores from here.
-- Assumes nothing.
use Rattle.std.specs.Prelude.{Bool, true, false, not, List, [], ◌∷◌, ℕ, ◌+◌, get_or}
use Rattle.table.specs.Pair.{as_data, routing, deleted}
use Rattle.table.specs.declared.Which.TheVariants.{State, Edge}
use Rattle.protocol.specs.declared.Phase.{Phase}
use Rattle.protocol.specs.declared.Phase.TheVariants.{Walk, OnRouting, New, Two, One, Leaf, UnderData, UnderRouting}
use Rattle.protocol.specs.declared.Links.{Links}
use Rattle.protocol.specs.declared.Links.TheVariants.{Any, Is, Neither, Both}
use Rattle.protocol.specs.declared.Action.{Action}
use Rattle.protocol.specs.declared.Action.TheVariants.{Visit, Look, Lock, Mark, Link, Take, End, Beyond}

-- an expected state: `present` is "not deleted", any other number is that state
abbrev pub present : ℕ
present = 0

-- the four kinds of lock. An edge lock expects its child there, and its slot not deleted
abbrev pub write_edge : ℕ → Bool → ℕ → Action
write_edge slot side child = Lock slot (Edge side) true present (Is side child)

abbrev pub read_edge : ℕ → Bool → ℕ → Action
read_edge slot side child = Lock slot (Edge side) false present (Is side child)

abbrev pub write_state : ℕ → ℕ → Links → Action
write_state slot state links = Lock slot State true state links

abbrev pub read_state : ℕ → ℕ → Action
read_state slot state = Lock slot State false state Any

-- what each case does, one action a step; the walk, and the leaf's look at previous, are one action over and over
unfoldable pub plan : Phase → List Action
plan (Walk at prev before side up) = Visit at prev before side up ∷ []
plan (OnRouting this done) = write_state this routing Any ∷ Mark this as_data ∷ End ∷ []
plan (New prev side done) = write_edge prev side 0 ∷ read_state prev present ∷ Take prev side ∷ End ∷ []
plan (Two this done) = write_state this as_data Both ∷ Mark this routing ∷ End ∷ []
plan (One this prev side child toward done) =
    read_edge this toward child ∷ write_edge prev side this ∷ write_state this as_data (Is (not toward) 0)
    ∷ Mark this deleted ∷ Link prev side child ∷ End ∷ []
plan (Leaf this prev side before up) = Look this prev side before up ∷ []
plan (UnderData this prev side done) =
    write_edge prev side this ∷ write_state this as_data Neither ∷ read_state prev as_data
    ∷ Mark this deleted ∷ Link prev side 0 ∷ End ∷ []
plan (UnderRouting this prev side before up other done) =
    write_edge prev side this ∷ write_state this as_data Neither ∷ read_edge prev (not side) other
    ∷ write_edge before up prev ∷ write_state prev routing Any
    ∷ Mark this deleted ∷ Mark prev deleted ∷ Link before up other ∷ End ∷ []

-- the action at a place of the plan
unfoldable pub action_at : Phase → ℕ → Action
action_at p i = get_or (plan p) i Beyond

-- how many of the actions are done
abbrev pub done_of : Phase → ℕ
done_of (Walk at prev before side up) = 0
done_of (OnRouting this done) = done
done_of (New prev side done) = done
done_of (Two this done) = done
done_of (One this prev side child toward done) = done
done_of (Leaf this prev side before up) = 0
done_of (UnderData this prev side done) = done
done_of (UnderRouting this prev side before up other done) = done

-- the phase with n of them done, and with one more done
abbrev pub with_done : Phase → ℕ → Phase
with_done (Walk at prev before side up) n = Walk at prev before side up
with_done (OnRouting this done) n = OnRouting this n
with_done (New prev side done) n = New prev side n
with_done (Two this done) n = Two this n
with_done (One this prev side child toward done) n = One this prev side child toward n
with_done (Leaf this prev side before up) n = Leaf this prev side before up
with_done (UnderData this prev side done) n = UnderData this prev side n
with_done (UnderRouting this prev side before up other done) n = UnderRouting this prev side before up other n

abbrev pub next_of : Phase → Phase
next_of p = with_done p (done_of p + 1)

-- the action that the next step does
abbrev pub action_of : Phase → Action
action_of p = action_at p (done_of p)

-- where a work begins, and begins again
abbrev pub at_root : Phase
at_root = Walk 0 0 0 true true

-- the actions that store
abbrev pub is_store : Action → Bool
is_store (Visit at prev before side up) = false
is_store (Look this prev side before up) = false
is_store (Lock slot which write state links) = false
is_store (Mark slot to) = true
is_store (Link slot side to) = true
is_store (Take prev side) = true
is_store End = false
is_store Beyond = false
