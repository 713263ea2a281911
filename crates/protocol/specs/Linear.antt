-- LINEARIZABILITY, as source document 000 defines it: the works of a run, up to any call of it, fit one order. There is a list of works
-- that the set type, from the empty set, serves one after the other, each with the kind and key that its start asked for and with the
-- answer that it gave, and then holds what the table holds. The list has every work that was answered; of those that were not it has
-- just the ones that changed the set, as if they had said yes; it has none twice; and it keeps the order of works that do not overlap.
-- Assumes nothing.
use Rattle.std.specs.Prelude.{◌≡◌, false, List, [], ◌∷◌, ◌⊎◌, ◌≢◌, ℕ, suc, ◌≤◌, ◌<◌}
use Rattle.refusal.specs.Said.{gives}
use Rattle.protocol.specs.Says.{Verdict, going, yes, full}
use Rattle.protocol.specs.Calls.{withdraw_of}
use Rattle.protocol.specs.Alone.{NoneFree}
use Rattle.protocol.specs.Sets.{Values, no_values, responds, values_after, said, Shows}
use Rattle.protocol.specs.Together.{Asked, start, step, withdraw, System, words_at, worker_at, said_at, born}
use Rattle.protocol.specs.declared.Kind.{Kind}
use Rattle.protocol.specs.declared.Kind.TheVariants.{Insert}

-- a work: one that call i ended with an answer that leaves the set as it is, or one that changed the set at its step, call k (an insert
-- or remove that has answered yes, or has not answered yet)
pub data Entry : Type 0 where
  told : (i : ℕ) → Entry
  made : (k : ℕ) → Entry

abbrev pub call_of : Entry → ℕ
call_of (told i) = i
call_of (made k) = k

-- LISTS OF WORKS

abbrev pub Has : List Entry → Entry → Type 0
Has [] x = ⊥
Has (y ∷ h) x = (x ≡ y) ⊎ Has h x

abbrev pub Each : (Entry → Type 0) → List Entry → Type 0
Each P [] = Unit {0}
Each P (x ∷ h) = P x × Each P h

-- of any two, the one that stands before and the one that stands after
abbrev pub Pairs : (Entry → Entry → Type 0) → List Entry → Type 0
Pairs R [] = Unit {0}
Pairs R (x ∷ h) = Each (R x) h × Pairs R h

module _ (asked : ℕ → Asked) (s : System) where
  -- call i ends the work that record a has in hand, with that answer
  abbrev pub Ends : ℕ → ℕ → Verdict → Type 0
  Ends i a v = (asked i ≡ step a) × (said_at asked s i a ≡ gives v) × (v ≢ going)

  -- calls i and j are steps of one work: of one record, which began it at one moment
  abbrev pub OneWork : ℕ → ℕ → Type 0
  OneWork i j = (a : ℕ) × (asked i ≡ step a) × (asked j ≡ step a) × (born asked s i a ≡ born asked s j a)

  -- THE SET TYPE AT WORK

  -- the work x of record a was started by call j, with that kind and key
  abbrev pub Began : Entry → ℕ → ℕ → Kind → ℕ → Type 0
  Began x a j kind key = (asked (call_of x) ≡ step a) × (born asked s (call_of x) a ≡ suc j) × (asked j ≡ start a kind key)

  -- what it says
  abbrev pub Answers : Entry → ℕ → Verdict → Type 0
  Answers (told i) a v = said_at asked s i a ≡ gives v
  Answers (made k) a v = v ≡ yes

  -- at a moment of its life the table held these values, and no slot was free
  abbrev pub Crowded : Entry → ℕ → Values → Type 0
  Crowded x a S = (m : ℕ) × (born asked s (call_of x) a ≤ m) × (m ≤ suc (call_of x)) × Shows (words_at asked s m) S × NoneFree (words_at asked s m)

  -- the set type holds S, responds, and holds S'; or it is an insert of an absent value where no slot is free: Full, and S stays
  abbrev pub Serves : Entry → ℕ → Kind → ℕ → Values → Values → Type 0
  Serves x a kind key S S' =
      (Answers x a (said (responds kind S key)) × (S' ≡ values_after kind S key))
      ⊎ ((kind ≡ Insert) × Answers x a full × (S key ≡ false) × Crowded x a S × (S' ≡ S))

  -- one after the other; in the end it holds what the table holds after n calls
  abbrev pub InTurn : List Entry → Values → ℕ → Type 0
  InTurn [] S n = Shows (words_at asked s n) S
  InTurn (x ∷ h) S n = (a j : ℕ) × (kind : Kind) × (key : ℕ) × (S' : Values) × Began x a j kind key × Serves x a kind key S S' × InTurn h S' n

  -- THE ORDER

  -- where x stands before y: y's work was not answered (call i) before x's was started (the call just before the moment of its birth)
  abbrev pub InOrder : Entry → Entry → Type 0
  InOrder x y = (a i b : ℕ) (v : Verdict) → asked (call_of x) ≡ step a → Ends i b v → OneWork i (call_of y) → suc i < born asked s (call_of x) a → ⊥

  abbrev pub Apart : Entry → Entry → Type 0
  Apart x y = OneWork (call_of x) (call_of y) → ⊥

  -- these works, in this order, for the first n calls
  pub record OneOrder (n : ℕ) (h : List Entry) : Type 0 where
    -- The set type serves them one after the other, from the empty set to what the table holds after n calls.
    pub served : InTurn h no_values n
    -- They are works of these calls;
    pub within : Each (λ x. call_of x < n) h
    -- every work that these calls answered is one of them: with its answer, or as the yes of one that changed the set;
    pub answered : (i a : ℕ) (v : Verdict) → i < n → Ends i a v
        → Has h (told i) ⊎ ((v ≡ yes) × ((k : ℕ) × (k ≤ i) × OneWork k i × Has h (made k)))
    -- one that changed the set says nothing but yes, whenever it answers;
    pub completed : (k i a : ℕ) (v : Verdict) → Has h (made k) → Ends i a v → OneWork i k → v ≡ yes
    -- none of them was or will be withdrawn;
    pub withdrawn : (i a : ℕ) → asked i ≡ withdraw a → (withdraw_of (words_at asked s i) (worker_at asked s i a)).says ≡ gives tt
        → Each (λ x. asked (call_of x) ≡ step a → born asked s (call_of x) a ≡ born asked s i a → ⊥) h
    -- no work stands there twice;
    pub apart : Pairs Apart h
    -- and works that do not overlap stand in their order.
    pub order : Pairs InOrder h

  abbrev pub Linear : ℕ → Type 0
  Linear n = (h : List Entry) × OneOrder n h
