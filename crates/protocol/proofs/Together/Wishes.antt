-- THE LOCKS OF THE PLAN, with what each expects; and what is known once such a lock is given: facts of the slot that the lock
-- itself guards. There is one plan: nothing here names a case.
-- Assumes nothing.
use mathlib.Core.Path.{◌≡◌, refl}
use mathlib.Core.Bool.{Bool, true, false}
use mathlib.Core.List.{List, [], ◌∷◌, ◌++◌}
use mathlib.Core.Logic.{inl, inr, ◌≢◌}
use Prim.Native.Nat.{ℕ, zero, suc, ◌<◌}
use native.Mathlib.Omega.{arith}
use native.Mathlib.Nat.{le_of_suc-le-suc}
use lib.ListN.{length, get_or}
use Rattle.table.specs.declared.Which.{Which}
use Rattle.table.specs.declared.Which.TheVariants.{State, Edge}
use Rattle.tree.specs.Reach.{Tab}
use Rattle.protocol.specs.Plan.{plan}
use Rattle.protocol.specs.Locks.{state_fits}
use Rattle.protocol.specs.declared.Phase.{Phase}
use Rattle.protocol.specs.declared.Phase.TheVariants.{Walk, OnRouting, New, Two, One, Leaf, UnderData, UnderRouting}
use Rattle.protocol.specs.declared.Links.{Links}
use Rattle.protocol.specs.declared.Links.TheVariants.{Any, Is, Neither, Both}
use Rattle.protocol.specs.declared.Action.{Action}
use Rattle.protocol.specs.declared.Action.TheVariants.{Visit, Look, Lock, Mark, Link, Take, End, Beyond}
use Rattle.protocol.proofs.Mistakes.{present_is, state_is}
use Rattle.protocol.proofs.Paths.Shape.{Live, Shape}
use Rattle.protocol.proofs.Together.Locks.{Held, Among}
use Rattle.protocol.proofs.Together.Facts.{Fact, leads, in_state, no_child, has_child, alive_by, alive, Holds, Guard, hold}

-- A PROPERTY OF EACH ELEMENT

abbrev pub All : {X : Type 0} → (X → Type 0) → List X → Type 0
All P [] = Unit {0}
All P (x ∷ xs) = P x × All P xs

pub All_at : {X : Type 0} (P : X → Type 0) (xs : List X) (d : X) (i : ℕ) → i < length xs → All P xs → P (get_or xs i d)
All_at P [] d i h a = absurd (omega arith)
All_at P (x ∷ xs) d zero h a = a.0
All_at P (x ∷ xs) d (suc i) h a = All_at P xs d i (le_of_suc-le-suc h) a.1

pub All_app : {X : Type 0} (P : X → Type 0) (xs ys : List X) → All P xs → All P ys → All P (xs ++ ys)
All_app P [] ys a b = b
All_app P (x ∷ xs) ys a b = (a.0, All_app P xs ys a.1 b)

pub All_snoc : {X : Type 0} (P : X → Type 0) (xs : List X) (x : X) → All P xs → P x → All P (xs ++ (x ∷ []))
All_snoc P xs x a p = All_app P xs (x ∷ []) a (p, tt)

pub All_zip : {X : Type 0} (G P Q : X → Type 0) → ((x : X) → G x → P x → Q x) → (xs : List X) → All G xs → All P xs → All Q xs
All_zip G P Q f [] a b = tt
All_zip G P Q f (x ∷ xs) a b = (f x a.0 b.0, All_zip G P Q f xs a.1 b.1)

-- THE LOCKS OF THE PLAN

-- a lock of a slot, for writing or reading, and the state and links that it expects
pub record Wish : Type 0 where
  pub slot : ℕ
  pub which : Which
  pub write : Bool
  pub want : ℕ
  pub links : Links

abbrev pub wish : ℕ → Which → Bool → ℕ → Links → Wish
wish slot which write want links = record { slot = slot; which = which; write = write; want = want; links = links }

abbrev pub lock_in : Action → List Wish
lock_in (Visit at prev before side up) = []
lock_in (Look this prev side before up) = []
lock_in (Lock slot which write state links) = wish slot which write state links ∷ []
lock_in (Mark slot to) = []
lock_in (Link slot side to) = []
lock_in (Take prev side) = []
lock_in End = []
lock_in Beyond = []

abbrev pub locks_in : List Action → List Wish
locks_in [] = []
locks_in (a ∷ rest) = lock_in a ++ locks_in rest

unfoldable pub locks : Phase → List Wish
locks p = locks_in (plan p)

abbrev pub held_of : Wish → Held
held_of w = hold w.slot w.which w.write

abbrev pub helds : List Wish → List Held
helds [] = []
helds (w ∷ ws) = held_of w ∷ helds ws

-- THE EXPECTATION

abbrev pub LinksFit : Tab → ℕ → Links → Type 0
LinksFit A s Any = Unit {0}
LinksFit A s (Is d v) = A.link s d ≡ v
LinksFit A s Neither = (A.link s true ≡ 0) × (A.link s false ≡ 0)
LinksFit A s Both = (A.link s true ≢ 0) × (A.link s false ≢ 0)

abbrev pub Meets : Tab → Wish → Type 0
Meets A w = (state_fits w.want (A.state w.slot) ≡ true) × LinksFit A w.slot w.links

-- WHAT IS KNOWN ONCE THE LOCK IS GIVEN

abbrev pub state_fact : ℕ → ℕ → List Fact
state_fact s zero = alive s ∷ []
state_fact s (suc v) = in_state s (suc v) ∷ []

-- a lock of the state for writing keeps children away, and those that are there in place
abbrev pub link_facts : ℕ → Links → List Fact
link_facts s Any = []
link_facts s (Is d zero) = no_child s d ∷ []
link_facts s (Is d (suc v)) = []
link_facts s Neither = no_child s true ∷ no_child s false ∷ []
link_facts s Both = has_child s true ∷ has_child s false ∷ []

-- a lock of an edge: where it leads; and if it is for writing, the slot stays as long as it leads somewhere
abbrev pub edge_facts : ℕ → Bool → ℕ → Links → List Fact
edge_facts s write want Any = []
edge_facts s true zero (Is d v) = leads s d v ∷ alive_by s d ∷ []
edge_facts s true (suc u) (Is d v) = leads s d v ∷ []
edge_facts s false want (Is d v) = leads s d v ∷ []
edge_facts s write want Neither = []
edge_facts s write want Both = []

abbrev pub gains_by : ℕ → Which → Bool → ℕ → Links → List Fact
gains_by s State true want links = state_fact s want ++ link_facts s links
gains_by s State false want links = state_fact s want
gains_by s (Edge d) write want links = edge_facts s write want links

abbrev pub gains : Wish → List Fact
gains w = gains_by w.slot w.which w.write w.want w.links

abbrev pub Got : Tab → (ℕ → ℕ) → Wish → Type 0
Got A rho w = All (Holds A rho) (gains w)

-- THE EXPECTATION GIVES IT
module _ {A : Tab} {rho : ℕ → ℕ} (h : Shape A rho) where
  live_if : (s : ℕ) → A.state s ≢ 0 → state_fits 0 (A.state s) ≡ true → Live A s
  live_if s n e = let d = present_is (A.state s) e in omega (arith, h.small s)

  state_gain : (s want : ℕ) → A.state s ≢ 0 → state_fits want (A.state s) ≡ true → All (Holds A rho) (state_fact s want)
  state_gain s zero n e = ((n, live_if s n e), tt)
  state_gain s (suc v) n e = ((n, state_is (suc v) (A.state s) (omega arith) e), tt)

  link_gain : (s : ℕ) (links : Links) → A.state s ≢ 0 → LinksFit A s links → All (Holds A rho) (link_facts s links)
  link_gain s Any n e = tt
  link_gain s (Is d zero) n e = ((n, e), tt)
  link_gain s (Is d (suc v)) n e = tt
  link_gain s Neither n e = ((n, e.0), ((n, e.1), tt))
  link_gain s Both n e = ((n, e.0), ((n, e.1), tt))

  edge_gain : (s : ℕ) (write : Bool) (want : ℕ) (links : Links) → A.state s ≢ 0 → state_fits want (A.state s) ≡ true
      → LinksFit A s links → All (Holds A rho) (edge_facts s write want links)
  edge_gain s write want Any n e f = tt
  edge_gain s true zero (Is d v) n e f = ((n, f), ((n, λ z. live_if s n e), tt))
  edge_gain s true (suc u) (Is d v) n e f = ((n, f), tt)
  edge_gain s false want (Is d v) n e f = ((n, f), tt)
  edge_gain s write want Neither n e f = tt
  edge_gain s write want Both n e f = tt

  gain_by : (s : ℕ) (which : Which) (write : Bool) (want : ℕ) (links : Links) → A.state s ≢ 0 → state_fits want (A.state s) ≡ true
      → LinksFit A s links → All (Holds A rho) (gains_by s which write want links)
  gain_by s State true want links n e f =
      All_app (Holds A rho) (state_fact s want) (link_facts s links) (state_gain s want n e) (link_gain s links n f)
  gain_by s State false want links n e f = state_gain s want n e
  gain_by s (Edge d) write want links n e f = edge_gain s write want links n e f

  pub gain : (w : Wish) → A.state w.slot ≢ 0 → Meets A w → Got A rho w
  gain w n m = gain_by w.slot w.which w.write w.want w.links n m.0 m.1

-- THE LOCK GUARDS IT: an edge lock expects the link of its own edge, and no other
abbrev pub TidyBy : Which → Links → Type 0
TidyBy State links = Unit {0}
TidyBy (Edge e) Any = Unit {0}
TidyBy (Edge e) (Is d v) = d ≡ e
TidyBy (Edge e) Neither = Unit {0}
TidyBy (Edge e) Both = Unit {0}

abbrev pub Tidy : Wish → Type 0
Tidy w = TidyBy w.which w.links

pub tidy : (p : Phase) → All Tidy (locks p)
unfolding locks plan
tidy (Walk at prev before side up) = tt
tidy (OnRouting this done) = (tt, tt)
tidy (New prev side done) = (refl, (tt, tt))
tidy (Two this done) = (tt, tt)
tidy (One this prev side child toward done) = (refl, (refl, (tt, tt)))
tidy (Leaf this prev side before up) = tt
tidy (UnderData this prev side done) = (refl, (tt, (tt, tt)))
tidy (UnderRouting this prev side before up other done) = (refl, (tt, (refl, (refl, (tt, tt)))))

guard_state : (s want : ℕ) (m : Bool) (hs : List Held) → Among hs (hold s State m) → All (Guard hs) (state_fact s want)
guard_state s zero m hs a = ((m, a), tt)
guard_state s (suc v) m hs a = ((m, a), tt)

guard_links : (s : ℕ) (links : Links) (hs : List Held) → Among hs (hold s State true) → All (Guard hs) (link_facts s links)
guard_links s Any hs a = tt
guard_links s (Is d zero) hs a = (a, tt)
guard_links s (Is d (suc v)) hs a = tt
guard_links s Neither hs a = (a, (a, tt))
guard_links s Both hs a = (a, (a, tt))

guard_edge : (s : ℕ) (e : Bool) (write : Bool) (want : ℕ) (links : Links) (hs : List Held) → TidyBy (Edge e) links
    → Among hs (hold s (Edge e) write) → All (Guard hs) (edge_facts s write want links)
guard_edge s e write want Any hs t a = tt
guard_edge s e true zero (Is d v) hs t a = ((true, rw t a), (rw t a, tt))
guard_edge s e true (suc u) (Is d v) hs t a = ((true, rw t a), tt)
guard_edge s e false want (Is d v) hs t a = ((false, rw t a), tt)
guard_edge s e write want Neither hs t a = tt
guard_edge s e write want Both hs t a = tt

guard_by : (s : ℕ) (which : Which) (write : Bool) (want : ℕ) (links : Links) (hs : List Held) → TidyBy which links
    → Among hs (hold s which write) → All (Guard hs) (gains_by s which write want links)
guard_by s State true want links hs t a =
    All_app (Guard hs) (state_fact s want) (link_facts s links) (guard_state s want true hs a) (guard_links s links hs a)
guard_by s State false want links hs t a = guard_state s want false hs a
guard_by s (Edge e) write want links hs t a = guard_edge s e write want links hs t a

pub guard_all : (ws : List Wish) (hs : List Held) → All Tidy ws → ((h : Held) → Among (helds ws) h → Among hs h)
    → All (λ w. All (Guard hs) (gains w)) ws
guard_all [] hs t f = tt
guard_all (w ∷ ws) hs t f = (
  guard_by w.slot w.which w.write w.want w.links hs t.0 (f (held_of w) (inl refl)),
  guard_all ws hs t.1 (λ h m. f h (inr m)),
)
