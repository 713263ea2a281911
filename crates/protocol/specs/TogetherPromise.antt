-- WORKERS TOGETHER: what is promised of every run that begins with a fresh table and idle records. In the words of demand 3, one
-- field for each; the definitions it rests on are those of the calls (`Together`), of a sound table and of the set (tree).
-- Assumes nothing.
use Rattle.std.specs.Prelude.{◌≡◌, Bool, true, false, List, [], ◌∷◌, ◌↔◌, ◌⊎◌, ◌≢◌, ℕ, suc, ◌+◌, ◌≤◌, ◌<◌, length, get_or}
use Rattle.refusal.specs.Said.{gives, refuses}
use Rattle.table.specs.Pair.{deleted, slots_of, state_of, lock_of, busy_of}
use Rattle.table.specs.declared.Which.{Which}
use Rattle.tree.specs.Reach.{tab_of, Reached, InSet}
use Rattle.tree.specs.Sound.{Sound}
use Rattle.tree.specs.Answers.{check_says, list_says, first_says, sweep_says}
use Rattle.protocol.specs.Says.{Verdict, going, yes, no, full}
use Rattle.protocol.specs.Step.{idle_worker}
use Rattle.protocol.specs.Calls.{idle, start_of, withdraw_of}
use Rattle.protocol.specs.Alone.{NoneFree}
use Rattle.protocol.specs.Together.{Asked, start, step, withdraw, System, idle_at, moment, words_at, worker_at, said_at, born, steps}
use Rattle.protocol.specs.declared.Kind.{Kind}
use Rattle.protocol.specs.declared.Kind.TheVariants.{Lookup, Insert, Remove}
use Rattle.protocol.specs.declared.Work.{Work}
use Rattle.protocol.specs.declared.Work.TheVariants.{Idle, Busy}
use Rattle.protocol.specs.declared.Worker.{Worker}

-- idle records, whatever key and phase stand in them
abbrev pub AllIdle : List Worker → Type 0
AllIdle workers = (a : ℕ) → a < length workers → (get_or workers a idle_worker).work ≡ Idle

-- THE SET

abbrev pub SameSet : List ℕ → List ℕ → Type 0
SameSet ws vs = (k : ℕ) → InSet ws k ↔ InSet vs k

-- all keys but one are in as they were
abbrev pub SameBut : ℕ → List ℕ → List ℕ → Type 0
SameBut key ws vs = (k : ℕ) → k ≢ key → InSet ws k ↔ InSet vs k

-- a work changes the set by its key alone: an insert's was out and is in, a remove's was in and is out
abbrev pub ChangedBy : Work → ℕ → List ℕ → List ℕ → Type 0
ChangedBy Idle key ws vs = ⊥
ChangedBy (Busy Lookup) key ws vs = ⊥
ChangedBy (Busy Insert) key ws vs = (InSet ws key → ⊥) × InSet vs key × SameBut key ws vs
ChangedBy (Busy Remove) key ws vs = InSet ws key × (InSet vs key → ⊥) × SameBut key ws vs

-- the works that may change it
abbrev pub Alters : Work → Type 0
Alters Idle = ⊥
Alters (Busy Lookup) = ⊥
Alters (Busy Insert) = Unit {0}
Alters (Busy Remove) = Unit {0}

-- what the set of source document 000 does for that answer: from the words before to the words after
abbrev pub AsSet : Work → ℕ → Verdict → List ℕ → List ℕ → Type 0
AsSet work key going ws vs = Unit {0}
AsSet Idle key yes ws vs = ⊥
AsSet (Busy Lookup) key yes ws vs = InSet ws key × SameSet ws vs
AsSet (Busy Insert) key yes ws vs = ChangedBy (Busy Insert) key ws vs
AsSet (Busy Remove) key yes ws vs = ChangedBy (Busy Remove) key ws vs
AsSet Idle key no ws vs = ⊥
AsSet (Busy Lookup) key no ws vs = (InSet ws key → ⊥) × SameSet ws vs
AsSet (Busy Insert) key no ws vs = InSet ws key × SameSet ws vs
AsSet (Busy Remove) key no ws vs = (InSet ws key → ⊥) × SameSet ws vs
AsSet Idle key full ws vs = ⊥
AsSet (Busy Lookup) key full ws vs = ⊥
AsSet (Busy Insert) key full ws vs = (InSet ws key → ⊥) × NoneFree ws × SameSet ws vs
AsSet (Busy Remove) key full ws vs = ⊥

-- how many records are busy
abbrev pub busy_one : Bool → ℕ
busy_one true = 0
busy_one false = 1

abbrev pub busy_ones : List Worker → ℕ
busy_ones [] = 0
busy_ones (w ∷ workers) = busy_one (idle w.work) + busy_ones workers

module _ (asked : ℕ → Asked) (s : System) where
  -- call j is a step of record a and changes the set
  abbrev pub Changes : ℕ → ℕ → Type 0
  Changes j a = (asked j ≡ step a) × (SameSet (words_at asked s j) (words_at asked s (suc j)) → ⊥)

  -- the work that record a has in hand at moment i changed the set, up to call i
  abbrev pub Did : ℕ → ℕ → Type 0
  Did i a = (j : ℕ) × (born asked s i a ≤ j) × (j ≤ i) × Changes j a

  -- at a moment between that work's start and the answer that call i gives
  abbrev pub Sometime : ℕ → ℕ → (List ℕ → Type 0) → Type 0
  Sometime i a P = (m : ℕ) × (born asked s i a ≤ m) × (m ≤ suc i) × P (words_at asked s m)

  -- what an answer of call i, a step of record a with that work and key, says of the set
  abbrev pub Truth : ℕ → ℕ → Work → ℕ → Verdict → Type 0
  Truth i a work key going = Unit {0}
  Truth i a Idle key yes = ⊥
  Truth i a (Busy Lookup) key yes = Sometime i a (λ ws. InSet ws key)
  Truth i a (Busy Insert) key yes = Unit {0}
  Truth i a (Busy Remove) key yes = Unit {0}
  Truth i a Idle key no = ⊥
  Truth i a (Busy Lookup) key no = Sometime i a (λ ws. InSet ws key → ⊥)
  Truth i a (Busy Insert) key no = Sometime i a (λ ws. InSet ws key)
  Truth i a (Busy Remove) key no = Sometime i a (λ ws. InSet ws key → ⊥)
  Truth i a Idle key full = ⊥
  Truth i a (Busy Lookup) key full = ⊥
  Truth i a (Busy Insert) key full = Sometime i a (λ ws. (InSet ws key → ⊥) × NoneFree ws)
  Truth i a (Busy Remove) key full = ⊥

  -- from moment m to moment n: one moment, or one call, which is a step of record a
  abbrev pub Point : ℕ → ℕ → ℕ → Type 0
  Point a m n = (n ≡ m) ⊎ ((n ≡ suc m) × (asked m ≡ step a))

  pub record Promise : Type 0 where
    -- Start from a fresh table: nothing is in.
    pub empty : (k : ℕ) → InSet (words_at asked s 0) k → ⊥
    -- Then under every order of calls the tree stays ordered,
    pub ordered : (i : ℕ) → Sound (words_at asked s i)
    -- and check says so.
    pub checked : (i : ℕ) → check_says (words_at asked s i) ≡ gives true
    -- An insert or remove changes the set by its key alone, and nothing else changes it:
    pub changes : (i : ℕ) → SameSet (words_at asked s i) (words_at asked s (suc i))
        ⊎ ((a : ℕ) × (asked i ≡ step a) × ChangedBy (worker_at asked s i a).work (worker_at asked s i a).key (words_at asked s i) (words_at asked s (suc i)))
    -- at most at one step,
    pub once : (i j a : ℕ) → born asked s j a ≤ i → i < j → Changes i a → Changes j a → ⊥
    -- and once ended it says yes exactly if it did;
    pub ended : (i a : ℕ) (v : Verdict) → asked i ≡ step a → Alters (worker_at asked s i a).work → said_at asked s i a ≡ gives v → v ≢ going
        → (v ≡ yes) ↔ Did i a
    -- one that is withdrawn did not.
    pub withdrawn : (i a : ℕ) → asked i ≡ withdraw a → (withdraw_of (words_at asked s i) (worker_at asked s i a)).says ≡ gives tt → Did i a → ⊥
    -- Every no, and each answer to a lookup, was true of the set at some moment between that work's start and its answer.
    -- (An insert's Full: the key was out, and no slot was free.)
    pub answers : (i a : ℕ) (v : Verdict) → asked i ≡ step a → said_at asked s i a ≡ gives v
        → Truth i a (worker_at asked s i a).work (worker_at asked s i a).key v
    -- A lookup ends within as many of its own steps as there are slots: while it is busy it has made fewer.
    pub lookups : (i a : ℕ) → (worker_at asked s i a).work ≡ Busy Lookup → steps asked s i a < slots_of (words_at asked s i)
    -- The work in hand, in all this, is the one that its start began: same kind, same key, busy ever since.
    pub works : (i a : ℕ) (kind : Kind) → (worker_at asked s i a).work ≡ Busy kind
        → (j : ℕ) × (j < i) × (born asked s i a ≡ suc j) × (asked j ≡ start a kind (worker_at asked s i a).key)
        × ((m : ℕ) → suc j ≤ m → m ≤ i → ((worker_at asked s m a).work ≡ Busy kind) × ((worker_at asked s m a).key ≡ (worker_at asked s i a).key))
    -- Each work that ended took effect at one point between its start and its answer, as on a set that has no others at work.
    pub atomic : (i a : ℕ) (v : Verdict) → asked i ≡ step a → said_at asked s i a ≡ gives v → v ≢ going
        → (m n : ℕ) × (born asked s i a ≤ m) × (n ≤ suc i) × Point a m n
        × AsSet (worker_at asked s i a).work (worker_at asked s i a).key v (words_at asked s m) (words_at asked s n)
    -- Besides: no call is refused 1, 6 or 9: a step of a busy record is not refused at all,
    pub steps_on : (i a n : ℕ) → idle_at (moment asked s i) a ≡ false → said_at asked s i a ≡ refuses n → ⊥
    -- a withdraw of a busy record only after its first store,
    pub withdraws : (i a n : ℕ) → idle_at (moment asked s i) a ≡ false → (withdraw_of (words_at asked s i) (worker_at asked s i a)).says ≡ refuses n → n ≡ 7
    -- a start of an idle record only for its key, or with 16 busy,
    pub starts : (i a n : ℕ) (kind : Kind) (key : ℕ) → idle_at (moment asked s i) a ≡ true
        → (start_of (words_at asked s i) (worker_at asked s i a) kind key).says ≡ refuses n → (n ≡ 3) ⊎ (n ≡ 4)
    -- a list only for its buffer, a first frame only where there is none,
    pub lists : (i low high room n : ℕ) → list_says (words_at asked s i) low high room ≡ refuses n → n ≡ 11
    pub firsts : (i from n : ℕ) → first_says (words_at asked s i) from ≡ refuses n → n ≡ 13
    -- a sweep only while a worker is busy;
    pub sweeps : (i n : ℕ) → sweep_says (words_at asked s i) ≡ refuses n → (n ≡ 8) × (busy_of (words_at asked s i) ≢ 0)
    -- the busy count is the number of busy records;
    pub count : (i : ℕ) → busy_of (words_at asked s i) ≡ busy_ones (moment asked s i).workers
    -- and when nobody is busy no lock is held and no deleted slot is linked.
    pub resting : (i : ℕ) → busy_of (words_at asked s i) ≡ 0
        → ((x : ℕ) (l : Which) → lock_of (words_at asked s i) x l ≡ 0)
        × ((x : ℕ) → Reached (tab_of (words_at asked s i)) x → state_of (words_at asked s i) x ≢ deleted)
