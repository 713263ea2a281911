-- A WORKER AS THE PROOF SEES IT: its stage, which is its phase sorted by how far it has come (walking, looking at previous, with
-- some of its locks and nothing stored, after its first and second of several stores, with everything stored). What it
-- holds are the plan's locks; what it knows in each stage is a list of facts.
-- Assumes nothing.
use mathlib.Core.Path.{◌≡◌}
use mathlib.Core.Bool.{Bool, true, false, not}
use mathlib.Core.List.{List, [], ◌∷◌}
use mathlib.Core.Logic.{◌⊎◌}
use Prim.Native.Nat.{ℕ, ◌≤◌, ◌<◌}
use lib.ListN.{length, get_or, take}
use Rattle.table.specs.Pair.{as_data, routing, deleted}
use Rattle.tree.specs.Reach.{Tab}
use Rattle.tree.specs.Walk.{Seen}
use Rattle.protocol.specs.declared.Kind.{Kind}
use Rattle.protocol.specs.declared.Kind.TheVariants.{Lookup, Insert, Remove}
use Rattle.protocol.specs.declared.Work.{Work}
use Rattle.protocol.specs.declared.Work.TheVariants.{Idle, Busy}
use Rattle.protocol.specs.declared.Worker.{Worker}
use Rattle.protocol.specs.declared.Phase.{Phase}
use Rattle.protocol.specs.declared.Phase.TheVariants.{Walk, OnRouting, New, Two, One, Leaf, UnderData, UnderRouting}
use Rattle.protocol.proofs.Together.Locks.{Held}
use Rattle.protocol.proofs.Together.Facts.{Fact, is_some, is_kid, is_key, not_key, turns, below, nears, leads, in_state, no_child, alive_by, way_to, ways_from, Holds}
use Rattle.protocol.proofs.Together.Wishes.{All, locks, helds, Got}

-- a case is a phase with nothing done
pub data Stage : Type 0 where
  walk : (at prev before : ℕ) (side : Bool) → Stage
  look : (this prev before : ℕ) (side : Bool) → Stage
  lock : Phase → ℕ → Stage
  killed : Phase → Stage
  killed_both : Phase → Stage
  last : Phase → Stage

pub data Doing : Type 0 where
  idle : Doing
  busy : Kind → ℕ → Stage → Doing

-- THE STAGE OF A PHASE, by how many of its actions are done

-- past its end the plan has no stage: no worker holds ten locks
abbrev pub nowhere : Phase → Stage
nowhere c = lock c 10

-- two, three, and more actions after the locks
abbrev pub short : Phase → List Stage
short c = lock c 0 ∷ lock c 1 ∷ last c ∷ []

abbrev pub middle : Phase → List Stage
middle c = lock c 0 ∷ lock c 1 ∷ lock c 2 ∷ last c ∷ []

abbrev pub wide : Phase → List Stage
wide c = lock c 0 ∷ lock c 1 ∷ lock c 2 ∷ lock c 3 ∷ killed c ∷ last c ∷ []

abbrev pub widest : Phase → List Stage
widest c = lock c 0 ∷ lock c 1 ∷ lock c 2 ∷ lock c 3 ∷ lock c 4 ∷ lock c 5 ∷ killed c ∷ killed_both c ∷ last c ∷ []

abbrev pub stage_at : (Phase → List Stage) → Phase → ℕ → Stage
stage_at stages c n = get_or (stages c) n (nowhere c)

abbrev pub view : Phase → Stage
view (Walk at prev before side up) = walk at prev before side
view (OnRouting this done) = stage_at short (OnRouting this 0) done
view (New prev side done) = stage_at middle (New prev side 0) done
view (Two this done) = stage_at short (Two this 0) done
view (One this prev side child toward done) = stage_at wide (One this prev side child toward 0) done
view (Leaf this prev side before up) = look this prev before side
view (UnderData this prev side done) = stage_at wide (UnderData this prev side 0) done
view (UnderRouting this prev side before up other done) = stage_at widest (UnderRouting this prev side before up other 0) done

abbrev pub doing_by : Work → ℕ → Phase → Doing
doing_by Idle key p = idle
doing_by (Busy kind) key p = busy kind key (view p)

abbrev pub doing : Worker → Doing
doing w = doing_by w.work w.key w.phase

-- WHAT IS HELD

abbrev pub held_in : Stage → List Held
held_in (walk a p b s) = []
held_in (look t p b s) = []
held_in (lock c i) = helds (take i (locks c))
held_in (killed c) = helds (locks c)
held_in (killed_both c) = helds (locks c)
held_in (last c) = helds (locks c)

abbrev pub held : Doing → List Held
held idle = []
held (busy j k p) = held_in p

-- WHAT IS KNOWN

-- before any lock
abbrev pub base : ℕ → Phase → List Fact
base k (Walk at prev before side up) = []
base k (OnRouting t n) = is_key t k ∷ []
base k (New p s n) = turns p k s ∷ not_key p k ∷ way_to p k ∷ []
base k (Two t n) = is_key t k ∷ []
base k (One t p s c cs n) = is_key t k ∷ below p t ∷ is_kid c ∷ below t c ∷ []
base k (Leaf this prev side before up) = []
base k (UnderData t p s n) = is_key t k ∷ below p t ∷ []
base k (UnderRouting t p s a up o n) = is_key t k ∷ below p t ∷ below a p ∷ is_kid o ∷ below p o ∷ not_key o k ∷ is_kid p ∷ []

-- after the first of several stores, and after the second
abbrev pub then1 : ℕ → Phase → List Fact
then1 k (Walk at prev before side up) = []
then1 k (OnRouting t n) = []
then1 k (New p s n) = []
then1 k (Two t n) = []
then1 k (One t p s c cs n) =
    leads t cs c ∷ leads p s t ∷ alive_by p s ∷ in_state t deleted ∷ no_child t (not cs) ∷ is_key t k ∷ is_kid c ∷ []
then1 k (Leaf this prev side before up) = []
then1 k (UnderData t p s n) =
    leads p s t ∷ in_state t deleted ∷ no_child t true ∷ no_child t false ∷ in_state p as_data ∷ is_key t k ∷ []
then1 k (UnderRouting t p s a up o n) =
    leads p s t ∷ in_state t deleted ∷ no_child t true ∷ no_child t false ∷ leads p (not s) o ∷ leads a up p ∷ alive_by a up
    ∷ in_state p routing ∷ is_key t k ∷ is_kid o ∷ []

abbrev pub then2 : ℕ → Phase → List Fact
then2 k (Walk at prev before side up) = []
then2 k (OnRouting t n) = []
then2 k (New p s n) = []
then2 k (Two t n) = []
then2 k (One t p s c cs n) = []
then2 k (Leaf this prev side before up) = []
then2 k (UnderData t p s n) = []
then2 k (UnderRouting t p s a up o n) =
    leads p s t ∷ in_state t deleted ∷ no_child t true ∷ no_child t false ∷ leads p (not s) o ∷ leads a up p ∷ alive_by a up
    ∷ in_state p deleted ∷ is_key t k ∷ is_kid o ∷ []

-- an insert that walks: what is ahead of it and not deleted is on the way from the root
abbrev pub walk_facts : Kind → ℕ → ℕ → ℕ → ℕ → Bool → List Fact
walk_facts Lookup k a p b s = is_some a ∷ nears p a ∷ nears b p ∷ turns p k s ∷ []
walk_facts Insert k a p b s = ways_from a k ∷ nears p a ∷ nears b p ∷ turns p k s ∷ []
walk_facts Remove k a p b s = is_some a ∷ nears p a ∷ nears b p ∷ turns p k s ∷ []

abbrev pub look_facts : ℕ → ℕ → ℕ → ℕ → Bool → List Fact
look_facts k t p b s = is_key t k ∷ below p t ∷ nears b p ∷ turns p k s ∷ []

abbrev pub Knows : Tab → (ℕ → ℕ) → Kind → ℕ → Stage → Type 0
Knows A rho j k (walk a p b s) = All (Holds A rho) (walk_facts j k a p b s)
Knows A rho j k (look t p b s) = All (Holds A rho) (look_facts k t p b s)
Knows A rho j k (lock c i) = All (Holds A rho) (base k c) × All (Got A rho) (take i (locks c))
Knows A rho j k (killed c) = All (Holds A rho) (then1 k c)
Knows A rho j k (killed_both c) = All (Holds A rho) (then2 k c)
Knows A rho j k (last c) = Unit {0}

-- a lookup or a remove that walks: the key is ahead, or O (it was out since the start)
abbrev pub Ahead : Tab → Type 0 → Kind → ℕ → Stage → Type 0
Ahead A O Lookup k (walk a p b s) = Seen A k a ⊎ O
Ahead A O Insert k (walk a p b s) = Unit {0}
Ahead A O Remove k (walk a p b s) = Seen A k a ⊎ O
Ahead A O j k (look t p b s) = Unit {0}
Ahead A O j k (lock c i) = Unit {0}
Ahead A O j k (killed c) = Unit {0}
Ahead A O j k (killed_both c) = Unit {0}
Ahead A O j k (last c) = Unit {0}

-- O k: k was out of the set at some moment since the worker's start
abbrev pub Fine : Tab → (ℕ → ℕ) → (ℕ → Type 0) → Doing → Type 0
Fine A rho O idle = Unit {0}
Fine A rho O (busy j k p) = (k < A.key 0) × Knows A rho j k p × Ahead A (O k) j k p

-- WHO OWNS A DELETED SLOT THAT IS STILL LINKED: the remover that works on it

abbrev pub owns1 : Phase → ℕ → Type 0
owns1 (Walk at prev before side up) x = ⊥
owns1 (OnRouting t n) x = ⊥
owns1 (New p s n) x = ⊥
owns1 (Two t n) x = ⊥
owns1 (One t p s c cs n) x = x ≡ t
owns1 (Leaf this prev side before up) x = ⊥
owns1 (UnderData t p s n) x = x ≡ t
owns1 (UnderRouting t p s a up o n) x = x ≡ t

abbrev pub owns2 : Phase → ℕ → Type 0
owns2 (Walk at prev before side up) x = ⊥
owns2 (OnRouting t n) x = ⊥
owns2 (New p s n) x = ⊥
owns2 (Two t n) x = ⊥
owns2 (One t p s c cs n) x = ⊥
owns2 (Leaf this prev side before up) x = ⊥
owns2 (UnderData t p s n) x = ⊥
owns2 (UnderRouting t p s a up o n) x = (x ≡ t) ⊎ (x ≡ p)

abbrev pub OwnsIn : Stage → ℕ → Type 0
OwnsIn (walk a p b s) x = ⊥
OwnsIn (look t p b s) x = ⊥
OwnsIn (lock c i) x = ⊥
OwnsIn (killed c) x = owns1 c x
OwnsIn (killed_both c) x = owns2 c x
OwnsIn (last c) x = ⊥

abbrev pub Owns : Doing → ℕ → Type 0
Owns idle x = ⊥
Owns (busy j k p) x = OwnsIn p x

-- WHAT GOES TOGETHER: a kind of work and its cases, a case and its stages

abbrev pub case_fits : Kind → Phase → Type 0
case_fits Lookup c = ⊥
case_fits Insert (Walk at prev before side up) = ⊥
case_fits Insert (OnRouting t n) = Unit {0}
case_fits Insert (New p s n) = Unit {0}
case_fits Insert (Two t n) = ⊥
case_fits Insert (One t p s c cs n) = ⊥
case_fits Insert (Leaf this prev side before up) = ⊥
case_fits Insert (UnderData t p s n) = ⊥
case_fits Insert (UnderRouting t p s a up o n) = ⊥
case_fits Remove (Walk at prev before side up) = ⊥
case_fits Remove (OnRouting t n) = ⊥
case_fits Remove (New p s n) = ⊥
case_fits Remove (Two t n) = Unit {0}
case_fits Remove (One t p s c cs n) = Unit {0}
case_fits Remove (Leaf this prev side before up) = ⊥
case_fits Remove (UnderData t p s n) = Unit {0}
case_fits Remove (UnderRouting t p s a up o n) = Unit {0}

-- the cases with more than one store, and with three
abbrev pub long : Phase → Type 0
long (Walk at prev before side up) = ⊥
long (OnRouting t n) = ⊥
long (New p s n) = ⊥
long (Two t n) = ⊥
long (One t p s c cs n) = Unit {0}
long (Leaf this prev side before up) = ⊥
long (UnderData t p s n) = Unit {0}
long (UnderRouting t p s a up o n) = Unit {0}

abbrev pub longer : Phase → Type 0
longer (Walk at prev before side up) = ⊥
longer (OnRouting t n) = ⊥
longer (New p s n) = ⊥
longer (Two t n) = ⊥
longer (One t p s c cs n) = ⊥
longer (Leaf this prev side before up) = ⊥
longer (UnderData t p s n) = ⊥
longer (UnderRouting t p s a up o n) = Unit {0}

abbrev pub Fits : Kind → Stage → Type 0
Fits j (walk a p b s) = Unit {0}
Fits j (look t p b s) = j ≡ Remove
Fits j (lock c i) = case_fits j c × (i ≤ length (locks c))
Fits j (killed c) = case_fits j c × long c
Fits j (killed_both c) = case_fits j c × longer c
Fits j (last c) = case_fits j c

abbrev pub Fit : Doing → Type 0
Fit idle = Unit {0}
Fit (busy j k p) = Fits j p

abbrev pub Working : Doing → Type 0
Working idle = ⊥
Working (busy j k p) = Unit {0}
