-- WHAT A WORKER KNOWS, fact by fact, each of a slot; which lock guards it; the stores, with the locks they are done under.
-- A change of state takes away no fact but those of that state.
-- Assumes nothing.
use mathlib.Core.Path.{◌≡◌, refl, ap, ◌∙◌}
use mathlib.Core.Bool.{Bool, true}
use mathlib.Core.List.{List}
use mathlib.Core.Logic.{◌⊎◌, ◌≢◌}
use Prim.Native.Nat.{ℕ, suc, ◌<◌}
use native.Mathlib.Omega.{arith}
use native.Mathlib.Decide.{ℕ_discrete}
use lib.Dec.{ltb}
use Rattle.table.specs.declared.Which.{Which}
use Rattle.table.specs.declared.Which.TheVariants.{State, Edge}
use Rattle.tree.specs.Reach.{Tab}
use Rattle.tree.specs.Walk.{dir, On, Way}
use Rattle.protocol.proofs.Paths.Shape.{Live, Shape}
use Rattle.protocol.proofs.Paths.Stores.{Stated, Bypass, Append, back, still_on, not_new}
use Rattle.protocol.proofs.Paths.Kept.{some_stated, stated_live, shape_stated, shape_bypass, new_rho, raise_rest, shape_append}
use Rattle.protocol.proofs.Together.Locks.{Held, Among}

abbrev pub hold : ℕ → Which → Bool → Held
hold s l m = record { slot = s; which = l; write = m }

-- facts, each of a slot
pub data Fact : Type 0 where
  is_some : ℕ → Fact
  is_kid : ℕ → Fact
  is_key : ℕ → ℕ → Fact
  not_key : ℕ → ℕ → Fact
  turns : ℕ → ℕ → Bool → Fact
  below : ℕ → ℕ → Fact
  nears : ℕ → ℕ → Fact
  leads : ℕ → Bool → ℕ → Fact
  in_state : ℕ → ℕ → Fact
  no_child : ℕ → Bool → Fact
  has_child : ℕ → Bool → Fact
  alive_by : ℕ → Bool → Fact
  alive : ℕ → Fact
  way_to : ℕ → ℕ → Fact
  ways_from : ℕ → ℕ → Fact

abbrev pub slot_of : Fact → ℕ
slot_of (is_some s) = s
slot_of (is_kid s) = s
slot_of (is_key s k) = s
slot_of (not_key s k) = s
slot_of (turns s k d) = s
slot_of (below s t) = s
slot_of (nears s t) = s
slot_of (leads s d v) = s
slot_of (in_state s v) = s
slot_of (no_child s d) = s
slot_of (has_child s d) = s
slot_of (alive_by s d) = s
slot_of (alive s) = s
slot_of (way_to s k) = s
slot_of (ways_from s k) = s

abbrev pub Says : Tab → (ℕ → ℕ) → Fact → Type 0
Says A rho (is_some s) = Unit {0}
Says A rho (is_kid s) = s ≢ 0
Says A rho (is_key s k) = A.key s ≡ k
Says A rho (not_key s k) = k ≢ A.key s
Says A rho (turns s k d) = dir A k s ≡ d
Says A rho (below s t) = (A.state t ≢ 0) × (rho s < rho t)
Says A rho (nears s t) = (A.state t ≢ 0) × (t ≢ 0 → rho s < rho t) × (t ≡ 0 → s ≡ 0)
Says A rho (leads s d v) = A.link s d ≡ v
Says A rho (in_state s v) = A.state s ≡ v
Says A rho (no_child s d) = A.link s d ≡ 0
Says A rho (has_child s d) = A.link s d ≢ 0
Says A rho (alive_by s d) = A.link s d ≢ 0 → Live A s
Says A rho (alive s) = Live A s
Says A rho (way_to s k) = Live A s → Way A k s
Says A rho (ways_from s k) = (y : ℕ) → On A k y s → Live A y → Way A k y

abbrev pub Holds : Tab → (ℕ → ℕ) → Fact → Type 0
Holds A rho F = (A.state (slot_of F) ≢ 0) × Says A rho F

-- the lock that guards it
abbrev pub Guard : List Held → Fact → Type 0
Guard hs (is_some s) = Unit {0}
Guard hs (is_kid s) = Unit {0}
Guard hs (is_key s k) = Unit {0}
Guard hs (not_key s k) = Unit {0}
Guard hs (turns s k d) = Unit {0}
Guard hs (below s t) = Unit {0}
Guard hs (nears s t) = Unit {0}
Guard hs (leads s d v) = (m : Bool) × Among hs (hold s (Edge d) m)
Guard hs (in_state s v) = (m : Bool) × Among hs (hold s State m)
Guard hs (no_child s d) = Among hs (hold s State true)
Guard hs (has_child s d) = Among hs (hold s State true)
Guard hs (alive_by s d) = Among hs (hold s (Edge d) true)
Guard hs (alive s) = (m : Bool) × Among hs (hold s State m)
Guard hs (way_to s k) = Unit {0}
Guard hs (ways_from s k) = Unit {0}

-- the locks of two workers
pub record Excl (hs gs : List Held) : Type 0 where
  pub ours : (s : ℕ) (l : Which) (m : Bool) → Among hs (hold s l true) → Among gs (hold s l m) → ⊥
  pub theirs : (s : ℕ) (l : Which) (m : Bool) → Among hs (hold s l m) → Among gs (hold s l true) → ⊥

-- a store, with the locks that it is done under
pub data Store (A B : Tab) (hs : List Held) : Type 0 where
  state : (s v : ℕ) → Stated A B s v → Among hs (hold s State true)
      → (v ≡ 3 → (d : Bool) → (A.link s d ≡ 0) ⊎ ((m : Bool) × Among hs (hold s (Edge d) m))) → Store A B hs
  pass : (g : ℕ) (d : Bool) (v c w : ℕ) → Bypass A B g d v c w → Among hs (hold g (Edge d) true)
      → (c ≢ 0) ⊎ ((m : Bool) × Among hs (hold g State m)) → Store A B hs
  add : (p : ℕ) (d : Bool) (f k : ℕ) → Append A B p d f k → Among hs (hold p (Edge d) true) → ((m : Bool) × Among hs (hold p State m)) → Store A B hs

abbrev pub rho_after : {A B : Tab} {hs : List Held} {rho : ℕ → ℕ} → Store A B hs → Shape A rho → ℕ → ℕ
rho_after {rho = rho} (state s v b i j) h = rho
rho_after {rho = rho} (pass g d v c w b i j) h = rho
rho_after {rho = rho} (add p d f k b i j) h = new_rho b h

pub shape_store : {A B : Tab} {hs : List Held} {rho : ℕ → ℕ} (t : Store A B hs) (h : Shape A rho) → Shape B (rho_after t h)
shape_store (state s v b i j) h = shape_stated b h
shape_store (pass g d v c w b i j) h = shape_bypass b h
shape_store (add p d f k b i j) h = shape_append b h

-- a slot that is not free stays so
pub some_store : {A B : Tab} {hs : List Held} {rho : ℕ → ℕ} (t : Store A B hs) (h : Shape A rho) (x : ℕ) → A.state x ≢ 0 → B.state x ≢ 0
some_store (state s v b i j) h x n = some_stated b h x n
some_store (pass g d v c w b i j) h x n = rw (b.states x) n
some_store (add p d f k b i j) h x n = rw (b.states x (not_new b h n)) n

-- and keeps its key
pub key_store : {A B : Tab} {hs : List Held} {rho : ℕ → ℕ} (t : Store A B hs) (h : Shape A rho) (x : ℕ) → A.state x ≢ 0 → B.key x ≡ A.key x
key_store (state s v b i j) h x n = b.still.keys x
key_store (pass g d v c w b i j) h x n = b.keys x
key_store (add p d f k b i j) h x n = b.keys x (not_new b h n)

-- and its rank
pub rho_store : {A B : Tab} {hs : List Held} {rho : ℕ → ℕ} (t : Store A B hs) (h : Shape A rho) (x : ℕ) → A.state x ≢ 0 → rho_after t h x ≡ rho x
rho_store (state s v b i j) h x n = refl
rho_store (pass g d v c w b i j) h x n = refl
rho_store {rho = rho} (add p d f k b i j) h x n = raise_rest rho f (suc h.cap) x (not_new b h n)

-- a change of state takes away no fact but those of that state
module _ {A B : Tab} {s v : ℕ} (b : Stated A B s v) {rho : ℕ → ℕ} (h : Shape A rho) where
  pub other_live : {x : ℕ} → x ≢ s → Live A x → Live B x
  other_live {x} n l = rw (b.states x n) l

  pub said_state : (gs : List Held) → ((m : Bool) → Among gs (hold s State m) → ⊥) → (v ≡ 3 → (d : Bool) → A.link s d ≢ 0 → Among gs (hold s (Edge d) true) → ⊥)
      → (F : Fact) → Guard gs F → Holds A rho F → Says B rho F
  said_state gs o k (is_some x) g (n, p) = tt
  said_state gs o k (is_kid x) g (n, p) = p
  said_state gs o k (is_key x j) g (n, p) = b.still.keys x ∙ p
  said_state gs o k (not_key x j) g (n, p) = rw (b.still.keys x) p
  said_state gs o k (turns x j d) g (n, p) = ap (ltb j) (b.still.keys x) ∙ p
  said_state gs o k (below x y) g (n, p) = (some_stated b h y p.0, p.1)
  said_state gs o k (nears x y) g (n, p) = (some_stated b h y p.0, p.1, p.2)
  said_state gs o k (leads x d y) g (n, p) = b.still.links x d ∙ p
  said_state gs o k (in_state x u) g (n, p) = b.states x (λ e. o g.0 (rw e at g.1)) ∙ p
  said_state gs o k (no_child x d) g (n, p) = b.still.links x d ∙ p
  said_state gs o k (has_child x d) g (n, p) = rw (b.still.links x d) p
  said_state gs o k (alive_by x d) g (n, p) = λ m. go (rw (b.still.links x d) at m) (ℕ_discrete x s) (ℕ_discrete v 3)
    where
      go : A.link x d ≢ 0 → Dec (x ≡ s) → Dec (v ≡ 3) → Live B x
      go m (no e) f = other_live e (p m)
      go m (yes e) (no f) = rw (e, b.there) (let r = b.range in omega arith)
      go m (yes e) (yes f) = absurd (k f d (rw e at m) (rw e at g))
  said_state gs o k (alive x) g (n, p) = other_live (λ e. o g.0 (rw e at g.1)) p
  said_state gs o k (way_to x j) g (n, p) = λ l. still_on b.still (p (stated_live b h x l))
  said_state gs o k (ways_from x j) g (n, p) = λ y t l. still_on b.still (p y (still_on (back b.still) t) (stated_live b h y l))

  -- the worker's own change of state: it keeps what does not speak of that state
  abbrev pub Safe : Fact → Type 0
  Safe (is_some x) = Unit {0}
  Safe (is_kid x) = Unit {0}
  Safe (is_key x k) = Unit {0}
  Safe (not_key x k) = Unit {0}
  Safe (turns x k d) = Unit {0}
  Safe (below x y) = Unit {0}
  Safe (nears x y) = Unit {0}
  Safe (leads x d y) = Unit {0}
  Safe (in_state x u) = x ≢ s
  Safe (no_child x d) = Unit {0}
  Safe (has_child x d) = Unit {0}
  Safe (alive_by x d) = x ≢ s
  Safe (alive x) = x ≢ s
  Safe (way_to x k) = Unit {0}
  Safe (ways_from x k) = Unit {0}

  own_said : (F : Fact) → Safe F → Holds A rho F → Says B rho F
  own_said (is_some x) g (n, p) = tt
  own_said (is_kid x) g (n, p) = p
  own_said (is_key x j) g (n, p) = b.still.keys x ∙ p
  own_said (not_key x j) g (n, p) = rw (b.still.keys x) p
  own_said (turns x j d) g (n, p) = ap (ltb j) (b.still.keys x) ∙ p
  own_said (below x y) g (n, p) = (some_stated b h y p.0, p.1)
  own_said (nears x y) g (n, p) = (some_stated b h y p.0, p.1, p.2)
  own_said (leads x d y) g (n, p) = b.still.links x d ∙ p
  own_said (in_state x u) g (n, p) = b.states x g ∙ p
  own_said (no_child x d) g (n, p) = b.still.links x d ∙ p
  own_said (has_child x d) g (n, p) = rw (b.still.links x d) p
  own_said (alive_by x d) g (n, p) = λ m. other_live g (p (rw (b.still.links x d) at m))
  own_said (alive x) g (n, p) = other_live g p
  own_said (way_to x j) g (n, p) = λ l. still_on b.still (p (stated_live b h x l))
  own_said (ways_from x j) g (n, p) = λ y t l. still_on b.still (p y (still_on (back b.still) t) (stated_live b h y l))

  pub own : (F : Fact) → Safe F → Holds A rho F → Holds B rho F
  own F g p = (some_stated b h (slot_of F) p.0, own_said F g p)
