-- A plan's locks come first, and `locks_of` is how many they are: so the actions done after them hold nothing, and nothing is given
-- up for them.
-- Assumes nothing.
use mathlib.Core.Path.{◌≡◌, sym, ap, ◌∙◌}
use mathlib.Core.Bool.{false, ◌&&◌, and-true}
use Rattle.std.proofs.Math.Bool.{and-false}
use mathlib.Core.List.{List, [], ◌∷◌}
use Rattle.std.specs.Prelude.{min, ◌⊎◌}
use Rattle.std.proofs.Math.Nat.{min-eq_left, min-eq_right, min-le_right}
use Rattle.std.proofs.lemmas.Bool.{cases_lt}
use mathlib.Core.Logic.{inl, inr}
use Prim.Native.Nat.{ℕ, zero, suc, ◌≤◌, ◌<◌}
use native.Mathlib.Omega.{arith}
use native.Mathlib.Decide.{ℕ_discrete}
use lib.ListN.{get_or, length}
use Rattle.protocol.specs.Plan.{plan, action_at}
use Rattle.protocol.specs.Locks.{held_one, release_one, all_held, released}
use Rattle.protocol.specs.declared.Phase.{Phase}
use Rattle.protocol.specs.declared.Phase.TheVariants.{Walk, OnRouting, New, Two, One, Leaf, UnderData, UnderRouting}
use Rattle.protocol.specs.declared.Action.{Action}
use Rattle.protocol.specs.declared.Action.TheVariants.{Beyond}
use Rattle.plan.specs.First.{locks_of}
use Rattle.plan.specs.Holds.{hold_in}
use Rattle.protocol.proofs.Together.Wishes.{All}
use Rattle.plan.proofs.Actions.{all_at}
use Rattle.locks.specs.Holding.{held_by, freed_by}
use Rattle.locks.proofs.Takes.{Frees, Takes, free_held, free_released, lock_held, lock_freed}

-- a plan without its first n actions
past : ℕ → List Action → List Action
past zero l = l
past (suc n) [] = []
past (suc n) (a ∷ rest) = past n rest

past_at : (n : ℕ) (l : List Action) → All Frees (past n l) → (i : ℕ) → n ≤ i → Frees (get_or l i Beyond)
unfolding past
past_at zero l h i e = all_at Frees tt l h i
past_at (suc n) [] h i e = tt
past_at (suc n) (a ∷ rest) h zero e = absurd (omega (arith, e))
past_at (suc n) (a ∷ rest) h (suc i) e = past_at n rest h i (omega (arith, e))

no_locks : (p : Phase) → All Frees (past (locks_of p) (plan p))
unfolding past plan
no_locks (Walk at prev before side up) = (tt, tt)
no_locks (OnRouting this done) = (tt, (tt, tt))
no_locks (New prev side done) = (tt, (tt, tt))
no_locks (Two this done) = (tt, (tt, tt))
no_locks (One this prev side child toward done) = (tt, (tt, (tt, tt)))
no_locks (Leaf this prev side before up) = (tt, tt)
no_locks (UnderData this prev side done) = (tt, (tt, (tt, tt)))
no_locks (UnderRouting this prev side before up other done) = (tt, (tt, (tt, (tt, tt))))

-- EACH ACTION BEFORE THAT PLACE IS A LOCK, AND NONE AFTER
upto : ℕ → List Action → List Action
upto zero l = []
upto (suc n) [] = []
upto (suc n) (a ∷ rest) = a ∷ upto n rest

upto_at : (n : ℕ) (l : List Action) → All Takes (upto n l) → n ≤ length l → (i : ℕ) → i < n → Takes (get_or l i Beyond)
unfolding upto
upto_at zero l h m i e = absurd (omega (arith, e))
upto_at (suc n) [] h m i e = absurd (omega (arith, m))
upto_at (suc n) (a ∷ rest) h m zero e = h.0
upto_at (suc n) (a ∷ rest) h m (suc i) e = upto_at n rest h.1 (omega (arith, m)) i (omega (arith, e))

all_locks : (p : Phase) → All Takes (upto (locks_of p) (plan p)) × (locks_of p ≤ length (plan p))
unfolding upto plan
all_locks (Walk at prev before side up) = (tt, omega arith)
all_locks (OnRouting this done) = ((λ t. t, tt), omega arith)
all_locks (New prev side done) = ((λ t. t, (λ t. t, tt)), omega arith)
all_locks (Two this done) = ((λ t. t, tt), omega arith)
all_locks (One this prev side child toward done) = ((λ t. t, (λ t. t, (λ t. t, tt))), omega arith)
all_locks (Leaf this prev side before up) = (tt, omega arith)
all_locks (UnderData this prev side done) = ((λ t. t, (λ t. t, (λ t. t, tt))), omega arith)
all_locks (UnderRouting this prev side before up other done) = ((λ t. t, (λ t. t, (λ t. t, (λ t. t, (λ t. t, tt))))), omega arith)

pub before_stores : (p : Phase) (i : ℕ) → i < locks_of p → Frees (action_at p i) → ⊥
unfolding action_at
before_stores p i h = let a = all_locks p in upto_at (locks_of p) (plan p) a.0 a.1 i h

pub after_locks : (p : Phase) (i : ℕ) → locks_of p ≤ i → Frees (action_at p i)
unfolding action_at
after_locks p i h = past_at (locks_of p) (plan p) (no_locks p) i h

-- so more actions than locks make no difference
abbrev Same : List ℕ → Phase → ℕ → ℕ → Type 0
Same ws p k n = (all_held ws p k ≡ all_held ws p n) × (released ws p k ≡ released ws p n)

beyond_locks : (ws : List ℕ) (p : Phase) (n : ℕ) → locks_of p ≤ n → Same ws p (locks_of p) n
unfolding all_held released
beyond_locks ws p zero h = let e : locks_of p ≡ 0 = omega (arith, h) in (rw e, rw e)
beyond_locks ws p (suc n) h = go (ℕ_discrete (locks_of p) (suc n)) (beyond_locks ws p n)
  where
    go : Dec (locks_of p ≡ suc n) → (locks_of p ≤ n → Same ws p (locks_of p) n) → Same ws p (locks_of p) (suc n)
    go (yes e) r = (rw e, rw e)
    go (no d) r =
        let l : locks_of p ≤ n = omega (arith, h, d) in
        let f = after_locks p n l in
        ((r l).0 ∙ sym (rw (free_held ws (action_at p n) f) (and-true (all_held ws p n))), (r l).1 ∙ sym (free_released (released ws p n) (action_at p n) f))

-- and each of the locks is judged and given up by what it holds
pub held_at : (ws : List ℕ) (p : Phase) (i : ℕ) → i < locks_of p → held_by ws (hold_in (action_at p i)) ≡ held_one ws (action_at p i)
held_at ws p i h = lock_held ws (action_at p i) (before_stores p i h)

pub freed_at : (ws : List ℕ) (p : Phase) (i : ℕ) → i < locks_of p → freed_by ws (hold_in (action_at p i)) ≡ release_one ws (action_at p i)
freed_at ws p i h = lock_freed ws (action_at p i) (before_stores p i h)

-- SO GIVING UP NEED NOT ASK FOR MORE
pub locks_first : (ws : List ℕ) (p : Phase) (n : ℕ) → Same ws p (min n (locks_of p)) n
locks_first ws p n = go (cases_lt n (locks_of p))
  where
    go : (n < locks_of p) ⊎ (locks_of p ≤ n) → Same ws p (min n (locks_of p)) n
    go (inl l) = let e : min n (locks_of p) ≡ n = min-eq_left (omega (arith, l)) in (ap (all_held ws p) e, ap (released ws p) e)
    go (inr l) =
        let e : min n (locks_of p) ≡ locks_of p = min-eq_right l in
        let s = beyond_locks ws p n l in
        (ap (all_held ws p) e ∙ s.0, ap (released ws p) e ∙ s.1)

-- one lock that is not held is enough to refuse
pub not_held : (ws : List ℕ) (p : Phase) (n i : ℕ) → i < n → held_one ws (action_at p i) ≡ false → all_held ws p n ≡ false
unfolding all_held
not_held ws p zero i l e = absurd (omega (arith, l))
not_held ws p (suc n) i l e = go (ℕ_discrete i n) (λ m. not_held ws p n i m e)
  where
    go : Dec (i ≡ n) → (i < n → all_held ws p n ≡ false) → (all_held ws p n && held_one ws (action_at p n)) ≡ false
    go (yes d) r = let f : held_one ws (action_at p n) ≡ false = rw d at e in rw f (and-false (all_held ws p n))
    go (no d) r = rw (r (omega (arith, l, d)))

-- a place before both is a lock's
pub within : (i done : ℕ) (p : Phase) (m : ℕ) → m ≡ min done (locks_of p) → i < m → i < locks_of p
within i done p m e l = let r = min-le_right done (locks_of p) in omega (arith, e, l)
