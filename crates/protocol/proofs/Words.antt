-- The words seen as a table of slots and as lock words: a store of a state, of a link, of a new frame changes the one as it says
-- and leaves the other; locks and seats leave the table.
-- Assumes nothing.
use mathlib.Core.Path.{◌≡◌, refl, sym, ◌∙◌}
use mathlib.Core.Bool.{Bool, true, false}
use mathlib.Core.List.{List}
use mathlib.Core.Logic.{◌≢◌}
use Prim.Native.Nat.{ℕ}
use native.Mathlib.Omega.{arith}
use native.Mathlib.Decide.{ℕ_discrete}
use Rattle.table.specs.Pair.{as_data, state_f, link_f, lock_f, busy_f, field_of, lock_of}
use Rattle.table.specs.declared.Which.{Which}
use Rattle.table.proofs.ChangeLaws.{Only, lock_apart}
use Rattle.tree.specs.Reach.{Tab, tab_of}
use Rattle.protocol.proofs.HeldLaws.{LocksOnly}
use Rattle.protocol.proofs.StoreLaws.{Joins, state_link}
use Rattle.protocol.proofs.Paths.Stores.{Spot, Still}

-- STORES AS POINTWISE FACTS OF TWO TABLES

-- slot s gets state v
pub record SetState (A B : Tab) (s v : ℕ) : Type 0 where
  pub still : Still A B
  pub there : B.state s ≡ v
  pub states : (x : ℕ) → x ≢ s → B.state x ≡ A.state x

-- slot g's link on side d becomes c
pub record SetLink (A B : Tab) (g : ℕ) (d : Bool) (c : ℕ) : Type 0 where
  pub keys : (x : ℕ) → B.key x ≡ A.key x
  pub states : (x : ℕ) → B.state x ≡ A.state x
  pub there : B.link g d ≡ c
  pub rest : (x : ℕ) (s : Bool) → (Spot x s g d → ⊥) → B.link x s ≡ A.link x s

-- slot f gets key k, state data and no links, and hangs under slot p on side d
pub record SetNew (A B : Tab) (p : ℕ) (d : Bool) (f k : ℕ) : Type 0 where
  pub key_there : B.key f ≡ k
  pub keys : (x : ℕ) → x ≢ f → B.key x ≡ A.key x
  pub state_there : B.state f ≡ as_data
  pub states : (x : ℕ) → x ≢ f → B.state x ≡ A.state x
  pub there : B.link p d ≡ f
  pub none : (s : Bool) → B.link f s ≡ 0
  pub rest : (x : ℕ) (s : Bool) → x ≢ f → (Spot x s p d → ⊥) → B.link x s ≡ A.link x s

-- THE FIELDS ARE APART

pub link_apart : (s d : Bool) → s ≢ d → link_f s ≢ link_f d
link_apart true true n = absurd (n refl)
link_apart true false n = omega arith
link_apart false true n = omega arith
link_apart false false n = absurd (n refl)

pub busy_link : (d : Bool) → link_f d ≢ busy_f
busy_link true = omega arith
busy_link false = omega arith

-- WHAT LEAVES THE TABLE

-- two tables with equal states, keys and links are one
pub tab_same : (ws vs : List ℕ) → ((x : ℕ) → (tab_of vs).key x ≡ (tab_of ws).key x)
    → ((f : ℕ) (x : ℕ) → ((l : Which) → f ≢ lock_f l) → f ≢ busy_f → field_of f vs x ≡ field_of f ws x) → tab_of vs ≡ tab_of ws
tab_same ws vs k e = λ t. record {
  state = λ x. e state_f x (λ l z. (lock_apart l).0 (sym z)) (omega arith) t;
  key = λ x. k x t;
  link = λ x d. e (link_f d) x (λ l z. (lock_apart l).1 d (sym z)) (busy_link d) t;
}

pub locks_tab : (ws vs : List ℕ) → LocksOnly ws vs → tab_of vs ≡ tab_of ws
locks_tab ws vs o = tab_same ws vs o.keys (λ f x l b. o.fields f x l)

pub lock_tab : (which : Which) (slot v : ℕ) (ws vs : List ℕ) → Only (lock_f which) slot v ws vs → tab_of vs ≡ tab_of ws
lock_tab which slot v ws vs o = tab_same ws vs o.keys (λ f x l b. o.fields f x (l which))

pub seat_tab : (v : ℕ) (ws vs : List ℕ) → Only busy_f 0 v ws vs → tab_of vs ≡ tab_of ws
seat_tab v ws vs o = tab_same ws vs o.keys (λ f x l b. o.fields f x b)

-- WHAT LEAVES THE LOCKS

pub seat_locks : (v : ℕ) (ws vs : List ℕ) → Only busy_f 0 v ws vs → (i : ℕ) (l : Which) → lock_of vs i l ≡ lock_of ws i l
seat_locks v ws vs o i l = o.fields (lock_f l) i (lock_apart l).2

pub state_locks : (slot v : ℕ) (ws vs : List ℕ) → Only state_f slot v ws vs → (i : ℕ) (l : Which) → lock_of vs i l ≡ lock_of ws i l
state_locks slot v ws vs o i l = o.fields (lock_f l) i (lock_apart l).0

pub link_locks : (slot : ℕ) (d : Bool) (v : ℕ) (ws vs : List ℕ) → Only (link_f d) slot v ws vs → (i : ℕ) (l : Which) → lock_of vs i l ≡ lock_of ws i l
link_locks slot d v ws vs o i l = o.fields (lock_f l) i ((lock_apart l).1 d)

-- a new frame's slot had no lock, and has none
pub new_locks : (f key prev : ℕ) (d : Bool) (ws vs : List ℕ) → Joins f key prev d ws vs → ((l : Which) → lock_of ws f l ≡ 0)
    → (i : ℕ) (l : Which) → lock_of vs i l ≡ lock_of ws i l
new_locks f key prev d ws vs o z i l = go (ℕ_discrete i f) (ℕ_discrete i prev)
  where
    go : Dec (i ≡ f) → Dec (i ≡ prev) → lock_of vs i l ≡ lock_of ws i l
    go (yes e) q = rw e (o.bare (lock_f l) (lock_apart l).0 ∙ sym (z l))
    go (no e) (yes q) = rw q (o.fields (lock_f l) ((lock_apart l).1 d))
    go (no e) (no q) = o.slots (lock_f l) i e q

-- THE STORES

pub state_set : (slot v : ℕ) (ws vs : List ℕ) → Only state_f slot v ws vs → SetState (tab_of ws) (tab_of vs) slot v
state_set slot v ws vs o =
    record {
      still = record { keys = o.keys; links = λ x d. o.fields (link_f d) x (λ e. state_link d (sym e)) };
      there = o.there;
      states = λ x n. o.slots state_f x n;
    }

pub link_set : (slot : ℕ) (d : Bool) (v : ℕ) (ws vs : List ℕ) → Only (link_f d) slot v ws vs → SetLink (tab_of ws) (tab_of vs) slot d v
link_set slot d v ws vs o =
    record {
      keys = o.keys;
      states = λ x. o.fields state_f x (state_link d);
      there = o.there;
      rest = λ x s n. go x s n (ℕ_discrete x slot);
    }
  where
    go : (x : ℕ) (s : Bool) → (Spot x s slot d → ⊥) → Dec (x ≡ slot) → (tab_of vs).link x s ≡ (tab_of ws).link x s
    go x s n (yes e) = o.fields (link_f s) x (link_apart s d (λ f. n (e, f)))
    go x s n (no e) = o.slots (link_f s) x e

pub new_set : (f key prev : ℕ) (d : Bool) (ws vs : List ℕ) → Joins f key prev d ws vs → f ≢ prev → SetNew (tab_of ws) (tab_of vs) prev d f key
new_set f key prev d ws vs o n =
    record {
      key_there = o.key_there;
      keys = o.keys;
      state_there = o.state_there;
      states = λ x e. state x e (ℕ_discrete x prev);
      there = o.link_there;
      none = λ s. o.bare (link_f s) (λ e. state_link s (sym e));
      rest = λ x s e k. link x s e k (ℕ_discrete x prev);
    }
  where
    state : (x : ℕ) → x ≢ f → Dec (x ≡ prev) → (tab_of vs).state x ≡ (tab_of ws).state x
    state x e (yes q) = rw q (o.fields state_f (state_link d))
    state x e (no q) = o.slots state_f x e q

    link : (x : ℕ) (s : Bool) → x ≢ f → (Spot x s prev d → ⊥) → Dec (x ≡ prev) → (tab_of vs).link x s ≡ (tab_of ws).link x s
    link x s e k (yes q) = rw q (o.fields (link_f s) (link_apart s d (λ i. k (q, i))))
    link x s e k (no q) = o.slots (link_f s) x e q
