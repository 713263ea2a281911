-- A WORKER ALONE: a calm table, a run of steps counted in the calls themselves, and what each kind of work answers and leaves.
-- Assumes nothing.
use Rattle.std.specs.Prelude.{◌≡◌, true, List, ◌↔◌, ◌≢◌, ℕ, suc, ◌+◌, ◌≤◌, ◌<◌}
use Rattle.refusal.specs.Said.{gives}
use Rattle.table.specs.Pair.{free, routing, deleted, slots_of, key_of, state_of, lock_of, busy_of}
use Rattle.table.specs.Rules.{table_fine}
use Rattle.table.specs.declared.Which.{Which}
use Rattle.tree.specs.Reach.{tab_of, Reached, InSet}
use Rattle.tree.specs.Sound.{Sound}
use Rattle.protocol.specs.Says.{Verdict, going, yes, no, full}
use Rattle.protocol.specs.Step.{step_of, idle_worker}
use Rattle.protocol.specs.Calls.{start_of}
use Rattle.protocol.specs.declared.Kind.{Kind}
use Rattle.protocol.specs.declared.Kind.TheVariants.{Lookup, Insert, Remove}
use Rattle.protocol.specs.declared.Worker.{Worker}

-- "On a sound table with no lock held and no deleted slot linked .. while no other is busy"
pub record Calm (ws : List ℕ) : Type 0 where
  pub fine : table_fine ws ≡ true
  pub sound : Sound ws
  pub no_lock : (i : ℕ) (which : Which) → i < slots_of ws → lock_of ws i which ≡ 0
  pub linked : (y : ℕ) → Reached (tab_of ws) y → state_of ws y ≢ deleted
  pub nobody : busy_of ws ≡ 0

-- m steps: each but the last answers Going, the last answers v and so ends the work; vs and u are the words and the record
-- after it
pub data Runs (v : Verdict) (vs : List ℕ) (u : Worker) : List ℕ → Worker → ℕ → Type 0 where
  last : {ws : List ℕ} {w : Worker} → v ≢ going → step_of ws w ≡ record { says = gives v; worker = u; words = vs }
      → Runs v vs u ws w 1
  more : {ws us : List ℕ} {w x : Worker} {m : ℕ} → step_of ws w ≡ record { says = gives going; worker = x; words = us }
      → Runs v vs u us x m → Runs v vs u ws w (suc m)

-- an insert of k needs a free slot: k is not in the set, and no routing slot holds it
abbrev pub Needs : List ℕ → ℕ → Type 0
Needs ws k = (InSet ws k → ⊥) × ((y : ℕ) → Reached (tab_of ws) y → state_of ws y ≡ routing → key_of ws y ≢ k)

abbrev pub NoneFree : List ℕ → Type 0
NoneFree ws = (i : ℕ) → i < slots_of ws → state_of ws i ≢ free

-- What a work for key k answers, v, and the words that it leaves, vs. Only k's membership can change

pub record LookedUp (ws : List ℕ) (k : ℕ) (v : Verdict) (vs : List ℕ) : Type 0 where
  pub yes_exactly : (v ≡ yes) ↔ InSet ws k
  pub no_exactly : (v ≡ no) ↔ (InSet ws k → ⊥)
  -- no word changes
  pub words : vs ≡ ws

pub record Inserted (ws : List ℕ) (k : ℕ) (v : Verdict) (vs : List ℕ) : Type 0 where
  pub no_exactly : (v ≡ no) ↔ InSet ws k
  pub full_exactly : (v ≡ full) ↔ (Needs ws k × NoneFree ws)
  pub yes_exactly : (v ≡ yes) ↔ ((InSet ws k → ⊥) × ((Needs ws k × NoneFree ws) → ⊥))
  pub now_in : v ≡ yes → InSet vs k
  pub still_out : v ≡ full → InSet vs k → ⊥
  pub others : (j : ℕ) → j ≢ k → InSet vs j ↔ InSet ws j
  pub words : v ≡ no → vs ≡ ws

pub record Removed (ws : List ℕ) (k : ℕ) (v : Verdict) (vs : List ℕ) : Type 0 where
  pub yes_exactly : (v ≡ yes) ↔ InSet ws k
  pub no_exactly : (v ≡ no) ↔ (InSet ws k → ⊥)
  pub now_out : InSet vs k → ⊥
  pub others : (j : ℕ) → j ≢ k → InSet vs j ↔ InSet ws j
  pub words : v ≡ no → vs ≡ ws

abbrev pub Answers : Kind → List ℕ → ℕ → Verdict → List ℕ → Type 0
Answers Lookup ws k v vs = LookedUp ws k v vs
Answers Insert ws k v vs = Inserted ws k v vs
Answers Remove ws k v vs = Removed ws k v vs

-- "a worker started and run .. finishes within the number of slots plus 10 steps"; it answers, and the table is calm again
pub record Finishes (ws : List ℕ) (w : Worker) (kind : Kind) (k : ℕ) : Type 0 where
  pub started : (start_of ws w kind k).says ≡ gives tt
  pub steps : ℕ
  pub within : steps ≤ slots_of ws + 10
  pub answer : Verdict
  pub after : List ℕ
  pub run : Runs answer after idle_worker (start_of ws w kind k).words (start_of ws w kind k).worker steps
  pub answers : Answers kind ws k answer after
  pub calm : Calm after
