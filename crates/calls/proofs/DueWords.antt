-- Which words have no action due: by the work's number and the phase's.
-- Assumes nothing.
use mathlib.Core.Path.{◌≡◌, refl}
use mathlib.Core.Bool.{Bool, true, false, cond}
use Prim.Native.Nat.{ℕ}
use lib.Dec.{eqb}
use borrow.Author.Tests.{ne_eqb}
use Rattle.protocol.specs.Record.{roles}
use Rattle.protocol.specs.declared.Kind.TheVariants.{Lookup, Insert, Remove}
use Rattle.protocol.specs.declared.Work.TheVariants.{Idle, Busy}
use Rattle.protocol.specs.declared.Phase.{Phase}
use Rattle.protocol.specs.declared.Phase.TheVariants.{Walk, OnRouting, New, Two, One, Leaf, UnderData, UnderRouting}
use Rattle.protocol.specs.declared.Action.TheVariants.{Beyond}
use Rattle.plan.specs.Due.{due_at, due_of}
use Rattle.records.specs.declared.Flat.{Flat}
use Rattle.records.specs.Records.{work_at, phase_at, worker_at}
use Rattle.calls.specs.Workers.{due_work, due_in}

-- a lookup has no plan
no_lookup : (n : ℕ) (p : Phase) → Beyond ≡ due_of n Lookup p
unfolding due_of due_at roles
no_lookup n (Walk at prev before side up) = refl
no_lookup n (OnRouting this done) = refl
no_lookup n (New prev side done) = refl
no_lookup n (Two this done) = refl
no_lookup n (One this prev side child toward done) = refl
no_lookup n (Leaf this prev side before up) = refl
no_lookup n (UnderData this prev side done) = refl
no_lookup n (UnderRouting this prev side before up other done) = refl

-- an insert's phases are 1 and 2
pub no_insert : (n : ℕ) (f : Flat) → (f.phase ≡ 1 → ⊥) → (f.phase ≡ 2 → ⊥) → Beyond ≡ due_of n Insert (worker_at f).phase
unfolding worker_at phase_at due_of due_at roles
no_insert n f a b =
    rw (ne_eqb _ 1 a, ne_eqb _ 2 b) (go (eqb f.phase 3) (eqb f.phase 4) (eqb f.phase 5) (eqb f.phase 6) (eqb f.phase 7))
  where
    go : (x3 x4 x5 x6 x7 : Bool) → Beyond ≡ due_of n Insert
        (cond x3 (Two f.this f.done)
        (cond x4 (One f.this f.prev (eqb f.side 0) f.other (eqb f.toward 0) f.done)
        (cond x5 (Leaf f.this f.prev (eqb f.side 0) f.before (eqb f.up 0))
        (cond x6 (UnderData f.this f.prev (eqb f.side 0) f.done)
        (cond x7 (UnderRouting f.this f.prev (eqb f.side 0) f.before (eqb f.up 0) f.other f.done)
        (Walk f.this f.prev f.before (eqb f.side 0) (eqb f.up 0)))))))
    go true x4 x5 x6 x7 = refl
    go false true x5 x6 x7 = refl
    go false false true x6 x7 = refl
    go false false false true x7 = refl
    go false false false false true = refl
    go false false false false false = refl

-- a remove's are 3, 4, 6 and 7
pub no_remove : (n : ℕ) (f : Flat) → (f.phase ≡ 3 → ⊥) → (f.phase ≡ 4 → ⊥) → (f.phase ≡ 6 → ⊥) → (f.phase ≡ 7 → ⊥)
    → Beyond ≡ due_of n Remove (worker_at f).phase
unfolding worker_at phase_at due_of due_at roles
no_remove n f a b c d =
    rw (ne_eqb _ 3 a, ne_eqb _ 4 b, ne_eqb _ 6 c, ne_eqb _ 7 d) (go (eqb f.phase 1) (eqb f.phase 2) (eqb f.phase 5))
  where
    go : (x1 x2 x5 : Bool) → Beyond ≡ due_of n Remove
        (cond x1 (OnRouting f.this f.done)
        (cond x2 (New f.prev (eqb f.side 0) f.done)
        (cond x5 (Leaf f.this f.prev (eqb f.side 0) f.before (eqb f.up 0))
        (Walk f.this f.prev f.before (eqb f.side 0) (eqb f.up 0)))))
    go true x2 x5 = refl
    go false true x5 = refl
    go false false true = refl
    go false false false = refl

-- only an insert, 2, and a remove, 3, have a plan
pub no_work : (n : ℕ) (f : Flat) → (f.work ≡ 2 → ⊥) → (f.work ≡ 3 → ⊥) → Beyond ≡ due_in n (worker_at f)
unfolding due_in worker_at work_at
no_work n f a b = rw (ne_eqb _ 2 a, ne_eqb _ 3 b) (go (eqb f.work 1))
  where
    go : (x : Bool) → Beyond ≡ due_work n (cond x (Busy Lookup) Idle) (worker_at f).phase
    go true = no_lookup n _
    go false = refl
