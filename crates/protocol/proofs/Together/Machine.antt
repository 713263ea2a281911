-- THE MOVES OF A WORKER: a start, a quiet step, a lock given, giving all up to begin again or to end, a store. Every step of a
-- record of such a run is one of these.
-- Assumes nothing.
use mathlib.Core.Path.{◌≡◌}
use mathlib.Core.Bool.{Bool, true}
use mathlib.Core.Logic.{◌⊎◌, ◌≢◌}
use Prim.Native.Nat.{ℕ, suc, ◌<◌}
use lib.ListN.{length}
use Rattle.table.specs.declared.Which.{Which}
use Rattle.tree.specs.Reach.{Tab}
use Rattle.tree.specs.Walk.{next}
use Rattle.protocol.specs.Says.{Verdict, going, yes, no, full}
use Rattle.protocol.specs.declared.Kind.{Kind}
use Rattle.protocol.specs.declared.Kind.TheVariants.{Lookup, Insert, Remove}
use Rattle.protocol.specs.declared.Phase.{Phase}
use Rattle.protocol.specs.declared.Phase.TheVariants.{New}
use Rattle.protocol.proofs.Together.Locks.{Takes, Drops}
use Rattle.protocol.proofs.Together.Wishes.{locks, held_of, Meets}
use Rattle.protocol.proofs.Together.Stages.{Stage, walk, look, lock, killed, killed_both, last, Doing, idle, busy, held_in}
use Rattle.protocol.proofs.Together.Moves.{Quiet, next_lock}
use Rattle.protocol.proofs.Together.Puts.{Put}

-- what a step says, or done: a start, or a withdrawal
pub data Answer : Type 0 where
  said : Verdict → Answer
  done : Answer

-- give up all and begin again at the root
pub data Again (A : Tab) (k : ℕ) : Kind → Stage → Type 0 where
  ins_gone : {a p b : ℕ} {d : Bool} → A.key a ≡ k → A.state a ≡ 3 → Again A k Insert (walk a p b d)
  look_gone : {t p b : ℕ} {d : Bool} → A.state p ≡ 3 → Again A k Remove (look t p b d)
  look_none : {t p b : ℕ} {d : Bool} (s : Bool) → A.state p ≡ 2 → A.link p s ≡ 0 → Again A k Remove (look t p b d)
  refused : {j : Kind} (c : Phase) (i : ℕ) → i < length (locks c) → Again A k j (lock c i)

-- the walk towards k ends at a, and a is no data slot with that key
abbrev pub Miss : Tab → ℕ → ℕ → Type 0
Miss A k a = ((A.key a ≡ k) × (A.state a ≢ 1)) ⊎ ((k ≢ A.key a) × (next A k a ≡ 0))

-- not stored yet
abbrev pub Before : Stage → Type 0
Before (walk a p b d) = Unit {0}
Before (look t p b d) = Unit {0}
Before (lock c i) = Unit {0}
Before (killed c) = ⊥
Before (killed_both c) = ⊥
Before (last c) = ⊥

-- give up all, with an answer (done: the worker is withdrawn)
pub data End (A : Tab) (k : ℕ) : Kind → Stage → Answer → Type 0 where
  look_yes : {a p b : ℕ} {d : Bool} → A.key a ≡ k → A.state a ≡ 1 → End A k Lookup (walk a p b d) (said yes)
  look_no : {a p b : ℕ} {d : Bool} → Miss A k a → End A k Lookup (walk a p b d) (said no)
  ins_no : {a p b : ℕ} {d : Bool} → A.key a ≡ k → A.state a ≡ 1 → End A k Insert (walk a p b d) (said no)
  rem_no : {a p b : ℕ} {d : Bool} → Miss A k a → End A k Remove (walk a p b d) (said no)
  ins_full : {j : Kind} {p : ℕ} {s : Bool} → End A k j (lock (New p s 0) 2) (said full)
  last_yes : {j : Kind} {c : Phase} → End A k j (last c) (said yes)
  leave : {j : Kind} {p : Stage} → Before p → End A k j p done

pub data Move (A : Tab) (L : ℕ → Which → ℕ) : Doing → Tab → (ℕ → Which → ℕ) → Doing → Answer → Type 0 where
  start : (j : Kind) (k : ℕ) → k < A.key 0 → Move A L idle A L (busy j k (walk 0 0 0 true)) done
  quietly : {j : Kind} {k : ℕ} {p q : Stage} → Quiet A k j p q → Move A L (busy j k p) A L (busy j k q) (said going)
  takes : {j : Kind} {k : ℕ} (c : Phase) (i : ℕ) (M : ℕ → Which → ℕ) → i < length (locks c) → Meets A (next_lock c i) → Takes L M (held_of (next_lock c i))
      → Move A L (busy j k (lock c i)) A M (busy j k (lock c (suc i))) (said going)
  again : {j : Kind} {k : ℕ} {p : Stage} (M : ℕ → Which → ℕ) → Again A k j p → Drops L M (held_in p) → Move A L (busy j k p) A M (busy j k (walk 0 0 0 true)) (said going)
  ends : {j : Kind} {k : ℕ} {p : Stage} {o : Answer} (M : ℕ → Which → ℕ) → End A k j p o → Drops L M (held_in p) → Move A L (busy j k p) A M idle o
  puts : {j : Kind} {k : ℕ} {p q : Stage} (B : Tab) → Put A B k p q → Move A L (busy j k p) B L (busy j k q) (said going)
