-- EVERYTHING A WORKER KNOWS IS GUARDED BY THE LOCKS IT HOLDS: so it outlives every store of another.
-- Assumes nothing.
use mathlib.Core.Path.{refl}
use mathlib.Core.Bool.{Bool}
use mathlib.Core.List.{List, [], ◌∷◌}
use mathlib.Core.Logic.{inl, inr, ⊎_elim}
use Prim.Native.Nat.{ℕ, zero, suc}
use lib.ListN.{take}
use Rattle.tree.specs.Reach.{Tab, top, Has}
use Rattle.protocol.specs.Plan.{plan}
use Rattle.protocol.specs.declared.Kind.{Kind}
use Rattle.protocol.specs.declared.Kind.TheVariants.{Lookup, Insert, Remove}
use Rattle.protocol.specs.declared.Phase.{Phase}
use Rattle.protocol.specs.declared.Phase.TheVariants.{Walk, OnRouting, New, Two, One, Leaf, UnderData, UnderRouting}
use Rattle.protocol.proofs.Paths.Shape.{Shape, reached_some}
use Rattle.protocol.proofs.Together.Locks.{Held}
use Rattle.protocol.proofs.Together.Facts.{Fact, Holds, Guard, Excl, Store, rho_after, key_store}
use Rattle.protocol.proofs.Together.Keep.{keep_fact, keep_seen}
use Rattle.protocol.proofs.Together.Wishes.{All, All_zip, locks, helds, gains, Got, Tidy, tidy, guard_all}
use Rattle.protocol.proofs.Together.Stages.{Stage, walk, look, lock, killed, killed_both, last, Doing, idle, busy, held_in, held, base, then1, then2, walk_facts, look_facts, Knows, Ahead, Fine}

pub All_take : {X : Type 0} (P : X → Type 0) (xs : List X) (i : ℕ) → All P xs → All P (take i xs)
All_take P xs zero a = tt
All_take P [] (suc i) a = tt
All_take P (x ∷ xs) (suc i) a = (a.0, All_take P xs i a.1)

-- everything known is guarded
guard_base : (k : ℕ) (c : Phase) (hs : List Held) → All (Guard hs) (base k c)
guard_base k (Walk at prev before side up) hs = tt
guard_base k (OnRouting t n) hs = (tt, tt)
guard_base k (New p s n) hs = (tt, (tt, (tt, tt)))
guard_base k (Two t n) hs = (tt, tt)
guard_base k (One t p s c cs n) hs = (tt, (tt, (tt, (tt, tt))))
guard_base k (Leaf this prev side before up) hs = tt
guard_base k (UnderData t p s n) hs = (tt, (tt, tt))
guard_base k (UnderRouting t p s a up o n) hs = (tt, (tt, (tt, (tt, (tt, (tt, (tt, tt)))))))

guard1 : (k : ℕ) (c : Phase) → All (Guard (helds (locks c))) (then1 k c)
unfolding locks plan
guard1 k (Walk at prev before side up) = tt
guard1 k (OnRouting t n) = tt
guard1 k (New p s n) = tt
guard1 k (Two t n) = tt
guard1 k (One t p s c cs n) = ((_, inl refl), ((_, inr (inl refl)), (inr (inl refl), ((_, inr (inr (inl refl))), (inr (inr (inl refl)), (tt, (tt, tt)))))))
guard1 k (Leaf this prev side before up) = tt
guard1 k (UnderData t p s n) = ((_, inl refl), ((_, inr (inl refl)), (inr (inl refl), (inr (inl refl), ((_, inr (inr (inl refl))), (tt, tt))))))
guard1 k (UnderRouting t p s a up o n) =
    ((_, inl refl), ((_, inr (inl refl)), (inr (inl refl), (inr (inl refl), ((_, inr (inr (inl refl))), ((_, inr (inr (inr (inl refl)))), (inr (inr (inr (inl refl))), ((_, inr (inr (inr (inr (inl refl))))), (tt, (tt, tt))))))))))

guard2 : (k : ℕ) (c : Phase) → All (Guard (helds (locks c))) (then2 k c)
unfolding locks plan
guard2 k (Walk at prev before side up) = tt
guard2 k (OnRouting t n) = tt
guard2 k (New p s n) = tt
guard2 k (Two t n) = tt
guard2 k (One t p s c cs n) = tt
guard2 k (Leaf this prev side before up) = tt
guard2 k (UnderData t p s n) = tt
guard2 k (UnderRouting t p s a up o n) = guard1 k (UnderRouting t p s a up o n)

guard_walk : (j : Kind) (k a p b : ℕ) (s : Bool) (hs : List Held) → All (Guard hs) (walk_facts j k a p b s)
guard_walk Lookup k a p b s hs = (tt, (tt, (tt, (tt, tt))))
guard_walk Insert k a p b s hs = (tt, (tt, (tt, (tt, tt))))
guard_walk Remove k a p b s hs = (tt, (tt, (tt, (tt, tt))))

-- (5) another's store: what a worker knows stays
module _ {A B : Tab} {hs : List Held} {rho : ℕ → ℕ} (t : Store A B hs) (h : Shape A rho) where
  keeps : (gs : List Held) → Excl hs gs → (fs : List Fact) → All (Guard gs) fs → All (Holds A rho) fs → All (Holds B (rho_after t h)) fs
  keeps gs x fs g p = All_zip (Guard gs) (Holds A rho) (Holds B (rho_after t h)) (λ F q r. keep_fact t h gs x F q r) fs g p

  pub knows_store : (j : Kind) (k : ℕ) (p : Stage) → Excl hs (held_in p) → Knows A rho j k p → Knows B (rho_after t h) j k p
  knows_store j k (walk a p b d) x q = keeps [] x (walk_facts j k a p b d) (guard_walk j k a p b d []) q
  knows_store j k (look s p b d) x q = keeps [] x (look_facts k s p b d) (tt, (tt, (tt, (tt, tt)))) q
  knows_store j k (lock c i) x q =
      let gs = helds (take i (locks c)) in (
        keeps gs x (base k c) (guard_base k c gs) q.0,
        All_zip (λ l. All (Guard gs) (gains l)) (Got A rho) (Got B (rho_after t h)) (λ l g r. keeps gs x (gains l) g r) (take i (locks c))
            (guard_all (take i (locks c)) gs (All_take Tidy (locks c) i (tidy c)) (λ f m. m)) q.1,
      )
  knows_store j k (killed c) x q = keeps (helds (locks c)) x (then1 k c) (guard1 k c) q
  knows_store j k (killed_both c) x q = keeps (helds (locks c)) x (then2 k c) (guard2 k c) q
  knows_store j k (last c) x q = tt

  pub ahead_store : {O N : Type 0} (j : Kind) (k : ℕ) (p : Stage) → (O → N) → ((Has B k → ⊥) → N) → Knows A rho j k p → Ahead A O j k p → Ahead B N j k p
  ahead_store Lookup k (walk a p b d) o n q (inl s) = ⊎_elim (λ u. inl u) (λ u. inr (n u)) (keep_seen t h q.0.0 s)
  ahead_store Lookup k (walk a p b d) o n q (inr s) = inr (o s)
  ahead_store Insert k (walk a p b d) o n q s = tt
  ahead_store Remove k (walk a p b d) o n q (inl s) = ⊎_elim (λ u. inl u) (λ u. inr (n u)) (keep_seen t h q.0.0 s)
  ahead_store Remove k (walk a p b d) o n q (inr s) = inr (o s)
  ahead_store j k (look s p b d) o n q r = tt
  ahead_store j k (lock c i) o n q r = tt
  ahead_store j k (killed c) o n q r = tt
  ahead_store j k (killed_both c) o n q r = tt
  ahead_store j k (last c) o n q r = tt

  pub fine_store : {O N : ℕ → Type 0} (w : Doing) → ((k : ℕ) → O k → N k) → ((k : ℕ) → (Has B k → ⊥) → N k) → Excl hs (held w) → Fine A rho O w → Fine B (rho_after t h) N w
  fine_store idle o n x f = tt
  fine_store (busy j k p) o n x f =
      (rw (key_store t h 0 (reached_some h (top refl))) f.0, knows_store j k p x f.1, ahead_store j k p (o k) (n k) f.1 f.2)
