-- THE STORES OF THE PLAN as steps from stage to stage; and those that turn a slot to data or to routing, and that hang a new frame:
-- what is known makes each a store under its locks.
-- Assumes nothing.
use mathlib.Core.Path.{◌≡◌, refl}
use mathlib.Core.Bool.{Bool, true}
use mathlib.Core.Logic.{inl, inr, ◌≢◌}
use Prim.Native.Nat.{ℕ, ◌≤◌, ◌<◌}
use native.Mathlib.Omega.{arith}
use Rattle.tree.specs.Reach.{Tab}
use Rattle.protocol.specs.Plan.{plan}
use Rattle.protocol.specs.declared.Kind.{Kind}
use Rattle.protocol.specs.declared.Phase.TheVariants.{OnRouting, New, Two, One, UnderData, UnderRouting}
use Rattle.protocol.proofs.Words.{SetState, SetLink, SetNew}
use Rattle.protocol.proofs.Paths.Shape.{Live, Shape}
use Rattle.protocol.proofs.Paths.Stores.{Stated, Append}
use Rattle.protocol.proofs.Together.Facts.{Store, state, add, rho_after}
use Rattle.protocol.proofs.Together.Wishes.{locks}
use Rattle.protocol.proofs.Together.Stages.{Stage, lock, killed, killed_both, last, held_in, Knows}
use Rattle.protocol.proofs.Together.Turns.{both, key_root, Effect, plus, minus, none, Turn, Owned, owned_state, turn_plus, turn_minus, owned_add, turn_add}
use Rattle.protocol.proofs.Together.Ready.{routing_ready, new_ready, two_ready}

-- THE STORES: from the stage, to the stage
pub data Put (A B : Tab) (k : ℕ) : Stage → Stage → Type 0 where
  put_data : {t : ℕ} → SetState A B t 1 → Put A B k (lock (OnRouting t 0) 1) (last (OnRouting t 0))
  put_new : {p : ℕ} {s : Bool} (f : ℕ) → A.state f ≡ 0 → SetNew A B p s f k → Put A B k (lock (New p s 0) 2) (last (New p s 0))
  put_routing : {t : ℕ} → SetState A B t 2 → Put A B k (lock (Two t 0) 1) (last (Two t 0))
  kill_one : {t p : ℕ} {s : Bool} {c : ℕ} {cs : Bool} → SetState A B t 3 → Put A B k (lock (One t p s c cs 0) 3) (killed (One t p s c cs 0))
  pass_one : {t p : ℕ} {s : Bool} {c : ℕ} {cs : Bool} → SetLink A B p s c → Put A B k (killed (One t p s c cs 0)) (last (One t p s c cs 0))
  kill_leaf : {t p : ℕ} {s : Bool} → SetState A B t 3 → Put A B k (lock (UnderData t p s 0) 3) (killed (UnderData t p s 0))
  cut_leaf : {t p : ℕ} {s : Bool} → SetLink A B p s 0 → Put A B k (killed (UnderData t p s 0)) (last (UnderData t p s 0))
  kill_under : {t p : ℕ} {s : Bool} {a : ℕ} {d : Bool} {o : ℕ} → SetState A B t 3
      → Put A B k (lock (UnderRouting t p s a d o 0) 5) (killed (UnderRouting t p s a d o 0))
  kill_routing : {t p : ℕ} {s : Bool} {a : ℕ} {d : Bool} {o : ℕ} → SetState A B p 3
      → Put A B k (killed (UnderRouting t p s a d o 0)) (killed_both (UnderRouting t p s a d o 0))
  pass_routing : {t p : ℕ} {s : Bool} {a : ℕ} {d : Bool} {o : ℕ} → SetLink A B a d o
      → Put A B k (killed_both (UnderRouting t p s a d o 0)) (last (UnderRouting t p s a d o 0))

pub put_held : {A B : Tab} {k : ℕ} {p q : Stage} → Put A B k p q → held_in q ≡ held_in p
unfolding locks plan
put_held (put_data b) = refl
put_held (put_new f z b) = refl
put_held (put_routing b) = refl
put_held (kill_one b) = refl
put_held (pass_one b) = refl
put_held (kill_leaf b) = refl
put_held (cut_leaf b) = refl
put_held (kill_under b) = refl
put_held (kill_routing b) = refl
put_held (pass_routing b) = refl

abbrev pub effect : {A B : Tab} {k : ℕ} {p q : Stage} → Put A B k p q → Effect
effect (put_data b) = plus
effect (put_new f z b) = plus
effect (put_routing b) = minus
effect (kill_one b) = minus
effect (pass_one b) = none
effect (kill_leaf b) = minus
effect (cut_leaf b) = none
effect (kill_under b) = minus
effect (kill_routing b) = none
effect (pass_routing b) = none

pub record After (A B : Tab) (rho : ℕ → ℕ) (h : Shape A rho) (j : Kind) (k : ℕ) (p q : Stage) (e : Effect) : Type 0 where
  pub store : Store A B (held_in p)
  pub knows : Knows B (rho_after store h) j k q
  pub owned : Owned A B p q
  pub turn : Turn A B k e

module _ {A B : Tab} {rho : ℕ → ℕ} (h : Shape A rho) where
  pub stated : {s v : ℕ} → SetState A B s v → Live A s → s ≢ 0 → (0 < v) × (v ≤ 3) → ((d : Bool) → v ≡ 2 → A.link s d ≢ 0) → Stated A B s v
  stated b l n r t = record { still = b.still; there = b.there; states = b.states; live = l; not_root = n; range = r; two = t }

  -- a data slot is killed
  pub kill : {k t : ℕ} → SetState A B t 3 → k < A.key 0 → A.key t ≡ k → A.state t ≡ 1 → Stated A B t 3
  kill {k} {t} b l e s = stated b (omega arith) (key_root h l e) (omega arith) (λ d z. absurd (omega arith))

  -- RECOLOUR
  pub put_data_lem : (j : Kind) (k t : ℕ) → SetState A B t 1 → k < A.key 0 → Knows A rho j k (lock (OnRouting t 0) 1)
      → After A B rho h j k (lock (OnRouting t 0) 1) (last (OnRouting t 0)) plus
  unfolding locks plan
  put_data_lem j k t b l q =
      let (e, s) = routing_ready A rho j k t q in
      let s1 = s.1 in
      let x = stated b (omega arith) (key_root h l e.1) (omega arith) (λ d v. absurd (omega arith)) in
      record {
        store = state t 1 x (inl refl) (λ v. absurd (omega arith));
        knows = tt;
        owned = owned_state x h (lock (OnRouting t 0) 1) (last (OnRouting t 0)) (λ v. absurd (omega arith)) (λ y o. o);
        turn = turn_plus x h k e.1 s1 refl;
      }

  pub put_routing_lem : (j : Kind) (k t : ℕ) → SetState A B t 2 → k < A.key 0 → Knows A rho j k (lock (Two t 0) 1)
      → After A B rho h j k (lock (Two t 0) 1) (last (Two t 0)) minus
  unfolding locks plan
  put_routing_lem j k t b l q =
      let (e, s, c1, c2) = two_ready A rho j k t q in
      let s1 = s.1 in
      let x = stated b (omega arith) (key_root h l e.1) (omega arith) (λ d v. both (λ y. A.link t y ≢ 0) true c1.1 c2.1 d) in
      record {
        store = state t 2 x (inl refl) (λ v. absurd (omega arith));
        knows = tt;
        owned = owned_state x h (lock (Two t 0) 1) (last (Two t 0)) (λ v. absurd (omega arith)) (λ y o. o);
        turn = turn_minus x h k e.1 s1 (omega arith);
      }

  -- A NEW FRAME
  pub put_new_lem : (j : Kind) (k p : ℕ) (s : Bool) (f : ℕ) → A.state f ≡ 0 → SetNew A B p s f k → k < A.key 0 → Knows A rho j k (lock (New p s 0) 2)
      → After A B rho h j k (lock (New p s 0) 2) (last (New p s 0)) plus
  unfolding locks plan
  put_new_lem j k p s f z b l q =
      let (u, a, w, e, v) = new_ready A rho j k p s q in
      let x : Append A B p s f k = record {
        key_there = b.key_there;
        keys = b.keys;
        state_there = b.state_there;
        states = b.states;
        there = b.there;
        none = b.none;
        rest = b.rest;
        free = z;
        live = v.1;
        empty = e.1;
        apart = a.1;
        side = u.1;
        way = w.1 v.1;
        low = l;
      } in
      record {
        store = add p s f k x (inl refl) (_, inr (inl refl));
        knows = tt;
        owned = owned_add x h (lock (New p s 0) 2) (last (New p s 0)) (λ y o. o);
        turn = turn_add x h;
      }
