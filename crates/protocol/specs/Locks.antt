-- Taking a lock, and giving up all locks held. The locks held are the lock actions of the plan that are done.
-- Assumes nothing.
use Rattle.std.specs.Prelude.{Bool, true, false, cond, not, ◌&&◌, List, ℕ, zero, suc, ◌+◌, ◌-◌, leb, eqb, Result, Ok, Err}
use Rattle.refusal.specs.declared.Refusal.{Refusal}
use Rattle.refusal.specs.declared.Refusal.TheVariants.{Damaged, Readers}
use Rattle.table.specs.Pair.{deleted, state_of, link_of, lock_of, set_lock}
use Rattle.table.specs.Rules.{pair_fine}
use Rattle.table.specs.declared.Which.{Which}
use Rattle.protocol.specs.Plan.{present, action_at, at_root}
use Rattle.protocol.specs.declared.Phase.{Phase}
use Rattle.protocol.specs.declared.Links.{Links}
use Rattle.protocol.specs.declared.Links.TheVariants.{Any, Is, Neither, Both}
use Rattle.protocol.specs.declared.Action.{Action}
use Rattle.protocol.specs.declared.Action.TheVariants.{Visit, Look, Lock, Mark, Link, Take, End, Beyond}
use Rattle.protocol.specs.declared.Outcome.{Outcome}
use Rattle.protocol.specs.declared.Outcome.TheVariants.{Goes}

-- what an action comes to, and the words after it; one that is refused leaves them
pub record Did : Type 0 where
  pub said : Result Outcome Refusal
  pub words : List ℕ

abbrev pub did : Outcome → List ℕ → Did
did o ws = record { said = Ok o; words = ws }

abbrev pub stopped : Refusal → List ℕ → Did
stopped e ws = record { said = Err e; words = ws }

-- The expectation

unfoldable pub state_fits : ℕ → ℕ → Bool
state_fits want s = cond (eqb want present) (not (eqb s deleted)) (eqb s want)

unfoldable pub links_fit : List ℕ → ℕ → Links → Bool
links_fit ws slot Any = true
links_fit ws slot (Is side child) = eqb (link_of ws slot side) child
links_fit ws slot Neither = eqb (link_of ws slot true) 0 && eqb (link_of ws slot false) 0
links_fit ws slot Both = not (eqb (link_of ws slot true) 0) && not (eqb (link_of ws slot false) 0)

-- The lock's value: 1 when written, else twice its readers

abbrev pub weight : Bool → ℕ
weight true = 1
weight false = 2

-- a writer conflicts with all, a reader with a writer
unfoldable pub clear : Bool → ℕ → Bool
clear true x = eqb x 0
clear false x = not (eqb x 1)

unfoldable pub holds : Bool → ℕ → Bool
holds true x = eqb x 1
holds false x = leb 2 x

-- a read lock is wanted, and 16 readers hold the word
unfoldable pub crowded : Bool → ℕ → Bool
crowded write x = not write && leb 32 x

-- a lock is given only if the expectation holds and no lock conflicts
unfoldable pub granted : List ℕ → ℕ → Which → Bool → ℕ → Links → Bool
granted ws slot which write state links =
    state_fits state (state_of ws slot) && links_fit ws slot links && clear write (lock_of ws slot which)

-- Giving up: every pair and every lock is judged, then all are given up

unfoldable pub held_one : List ℕ → Action → Bool
held_one ws (Visit at prev before side up) = true
held_one ws (Look this prev side before up) = true
held_one ws (Lock slot which write state links) = pair_fine ws slot && holds write (lock_of ws slot which)
held_one ws (Mark slot to) = true
held_one ws (Link slot side to) = true
held_one ws (Take prev side) = true
held_one ws End = true
held_one ws Beyond = true

unfoldable pub release_one : List ℕ → Action → List ℕ
release_one ws (Visit at prev before side up) = ws
release_one ws (Look this prev side before up) = ws
release_one ws (Lock slot which write state links) = set_lock ws slot which (lock_of ws slot which - weight write)
release_one ws (Mark slot to) = ws
release_one ws (Link slot side to) = ws
release_one ws (Take prev side) = ws
release_one ws End = ws
release_one ws Beyond = ws

-- of the first n actions of the plan
unfoldable pub all_held : List ℕ → Phase → ℕ → Bool
all_held ws p zero = true
all_held ws p (suc n) = all_held ws p n && held_one ws (action_at p n)

unfoldable pub released : List ℕ → Phase → ℕ → List ℕ
released ws p zero = ws
released ws p (suc n) = release_one (released ws p n) (action_at p n)

unfoldable pub give_up : List ℕ → Phase → ℕ → Outcome → Did
give_up ws p n then = cond (all_held ws p n) (did then (released ws p n)) (stopped Damaged ws)

-- Taking: given, or all is given up and the work restarts; 9 where the word is crowded
unfoldable pub lock_step : List ℕ → Phase → ℕ → Phase → ℕ → Which → Bool → ℕ → Links → Did
lock_step ws p n next slot which write state links =
    cond (granted ws slot which write state links)
    (cond (crowded write (lock_of ws slot which))
    (stopped Readers ws)
    (did (Goes next) (set_lock ws slot which (lock_of ws slot which + weight write))))
    (give_up ws p n (Goes at_root))
