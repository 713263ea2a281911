-- WHAT A CASE KNOWS WHEN ALL ITS LOCKS ARE GIVEN and its first store is next: each fact below is one that its stores need. Where a lock
-- or an expectation lacks in the plan, the fact lacks here.
-- Assumes nothing.
use mathlib.Core.Path.{◌≡◌, refl, subst}
use mathlib.Core.Bool.{Bool, true, false, not}
use mathlib.Core.List.{List, [], ◌∷◌}
use mathlib.Core.Logic.{◌⊎◌, inl, inr}
use Prim.Native.Nat.{ℕ, ◌<◌}
use native.Mathlib.Omega.{arith}
use lib.ListN.{length, get_or, take}
use Rattle.table.specs.Pair.{as_data, routing}
use Rattle.tree.specs.Reach.{Tab}
use Rattle.protocol.specs.Plan.{plan}
use Rattle.protocol.specs.declared.Kind.{Kind}
use Rattle.protocol.specs.declared.Phase.{Phase}
use Rattle.protocol.specs.declared.Phase.TheVariants.{OnRouting, New, Two, One, UnderData, UnderRouting}
use Rattle.protocol.proofs.Together.Facts.{Fact, is_kid, is_key, not_key, turns, below, leads, in_state, no_child, has_child, alive_by, alive, way_to, Holds}
use Rattle.protocol.proofs.Together.Wishes.{All, All_at, locks, gains, Got}
use Rattle.protocol.proofs.Together.Stages as stages
use Rattle.protocol.proofs.Together.Stages.{base, Knows}
use Rattle.protocol.proofs.Together.Moves.{nowish}

-- a fact is among those
abbrev pub In : Fact → List Fact → Type 0
In F [] = ⊥
In F (x ∷ xs) = (x ≡ F) ⊎ In F xs

pick : (P : Fact → Type 0) (F : Fact) (xs : List Fact) → In F xs → All P xs → P F
pick P F [] i a = absurd i
pick P F (x ∷ xs) (inl e) a = subst P e a.0
pick P F (x ∷ xs) (inr i) a = pick P F xs i a.1

module _ (A : Tab) (rho : ℕ → ℕ) (j : Kind) (k : ℕ) where
  -- a fact known before any lock, and one that lock m told
  from_base : (c : Phase) (i : ℕ) → Knows A rho j k (stages.lock c i) → (F : Fact) → In F (base k c) → Holds A rho F
  from_base c i q F m = pick (Holds A rho) F (base k c) m q.0

  from_lock : (c : Phase) (i : ℕ) → Knows A rho j k (stages.lock c i) → (n : ℕ) → n < length (take i (locks c)) → (F : Fact)
      → In F (gains (get_or (take i (locks c)) n nowish)) → Holds A rho F
  from_lock c i q n l F m =
      pick (Holds A rho) F (gains (get_or (take i (locks c)) n nowish)) m (All_at (Got A rho) (take i (locks c)) nowish n l q.1)

  -- insert on routing: the slot has the key, and is routing
  pub routing_ready : (t : ℕ) → Knows A rho j k (stages.lock (OnRouting t 0) 1) → Holds A rho (is_key t k) × Holds A rho (in_state t routing)
  unfolding locks plan
  routing_ready t q =
      let known = from_base (OnRouting t 0) 1 q in
      let lock = from_lock (OnRouting t 0) 1 q in (
        known (is_key t k) (inl refl),
        lock 0 (omega arith) (in_state t routing) (inl refl),
      )

  -- insert new: previous is on the way, it leads nowhere on that side, and it is not deleted
  pub new_ready : (p : ℕ) (s : Bool) → Knows A rho j k (stages.lock (New p s 0) 2)
      → Holds A rho (turns p k s) × Holds A rho (not_key p k) × Holds A rho (way_to p k) × Holds A rho (leads p s 0) × Holds A rho (alive p)
  unfolding locks plan
  new_ready p s q =
      let known = from_base (New p s 0) 2 q in
      let lock = from_lock (New p s 0) 2 q in (
        known (turns p k s) (inl refl),
        known (not_key p k) (inr (inl refl)),
        known (way_to p k) (inr (inr (inl refl))),
        lock 0 (omega arith) (leads p s 0) (inl refl),
        lock 1 (omega arith) (alive p) (inl refl),
      )

  -- remove, two children: the slot has the key, is data and has two children
  pub two_ready : (t : ℕ) → Knows A rho j k (stages.lock (Two t 0) 1)
      → Holds A rho (is_key t k) × Holds A rho (in_state t as_data) × Holds A rho (has_child t true) × Holds A rho (has_child t false)
  unfolding locks plan
  two_ready t q =
      let known = from_base (Two t 0) 1 q in
      let lock = from_lock (Two t 0) 1 q in (
        known (is_key t k) (inl refl),
        lock 0 (omega arith) (in_state t as_data) (inl refl),
        lock 0 (omega arith) (has_child t true) (inr (inl refl)),
        lock 0 (omega arith) (has_child t false) (inr (inr (inl refl))),
      )

  -- remove, one child: it leads to the child and nowhere else, previous leads to it and is not deleted
  pub one_ready : (t p : ℕ) (s : Bool) (c : ℕ) (cs : Bool) → Knows A rho j k (stages.lock (One t p s c cs 0) 3)
      → Holds A rho (is_key t k) × Holds A rho (below p t) × Holds A rho (is_kid c) × Holds A rho (leads t cs c) × Holds A rho (leads p s t)
      × Holds A rho (alive_by p s) × Holds A rho (in_state t as_data) × Holds A rho (no_child t (not cs))
  unfolding locks plan
  one_ready t p s c cs q =
      let known = from_base (One t p s c cs 0) 3 q in
      let lock = from_lock (One t p s c cs 0) 3 q in (
        known (is_key t k) (inl refl),
        known (below p t) (inr (inl refl)),
        known (is_kid c) (inr (inr (inl refl))),
        lock 0 (omega arith) (leads t cs c) (inl refl),
        lock 1 (omega arith) (leads p s t) (inl refl),
        lock 1 (omega arith) (alive_by p s) (inr (inl refl)),
        lock 2 (omega arith) (in_state t as_data) (inl refl),
        lock 2 (omega arith) (no_child t (not cs)) (inr (inl refl)),
      )

  -- remove, leaf under data: previous leads to it and is data, it is data and leads nowhere
  pub leaf_ready : (t p : ℕ) (s : Bool) → Knows A rho j k (stages.lock (UnderData t p s 0) 3)
      → Holds A rho (is_key t k) × Holds A rho (below p t) × Holds A rho (leads p s t)
      × Holds A rho (in_state t as_data) × Holds A rho (no_child t true) × Holds A rho (no_child t false) × Holds A rho (in_state p as_data)
  unfolding locks plan
  leaf_ready t p s q =
      let known = from_base (UnderData t p s 0) 3 q in
      let lock = from_lock (UnderData t p s 0) 3 q in (
        known (is_key t k) (inl refl),
        known (below p t) (inr (inl refl)),
        lock 0 (omega arith) (leads p s t) (inl refl),
        lock 1 (omega arith) (in_state t as_data) (inl refl),
        lock 1 (omega arith) (no_child t true) (inr (inl refl)),
        lock 1 (omega arith) (no_child t false) (inr (inr (inl refl))),
        lock 2 (omega arith) (in_state p as_data) (inl refl),
      )

  -- remove, leaf under routing: besides, previous leads to the other child, the one before leads to previous and is not deleted
  pub under_ready : (t p : ℕ) (s : Bool) (a : ℕ) (up : Bool) (o : ℕ) → Knows A rho j k (stages.lock (UnderRouting t p s a up o 0) 5)
      → Holds A rho (is_key t k) × Holds A rho (below p t) × Holds A rho (below a p) × Holds A rho (is_kid o) × Holds A rho (leads p s t)
      × Holds A rho (in_state t as_data) × Holds A rho (no_child t true) × Holds A rho (no_child t false) × Holds A rho (leads p (not s) o)
      × Holds A rho (leads a up p) × Holds A rho (alive_by a up) × Holds A rho (in_state p routing)
  unfolding locks plan
  under_ready t p s a up o q =
      let known = from_base (UnderRouting t p s a up o 0) 5 q in
      let lock = from_lock (UnderRouting t p s a up o 0) 5 q in (
        known (is_key t k) (inl refl),
        known (below p t) (inr (inl refl)),
        known (below a p) (inr (inr (inl refl))),
        known (is_kid o) (inr (inr (inr (inl refl)))),
        lock 0 (omega arith) (leads p s t) (inl refl),
        lock 1 (omega arith) (in_state t as_data) (inl refl),
        lock 1 (omega arith) (no_child t true) (inr (inl refl)),
        lock 1 (omega arith) (no_child t false) (inr (inr (inl refl))),
        lock 2 (omega arith) (leads p (not s) o) (inl refl),
        lock 3 (omega arith) (leads a up p) (inl refl),
        lock 3 (omega arith) (alive_by a up) (inr (inl refl)),
        lock 4 (omega arith) (in_state p routing) (inl refl),
      )
