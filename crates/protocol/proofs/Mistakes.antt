-- "Mistakes we have shipped", those of a step, as facts that the definitions keep: each is refused where it would be made.
-- Assumes nothing.
use mathlib.Core.Path.{◌≡◌, refl}
use mathlib.Core.Bool.{Bool, true, false, not}
use mathlib.Core.List.{List}
use mathlib.Core.Logic.{◌≢◌}
use Prim.Native.Nat.{ℕ, zero, suc, ◌+◌, ◌≤◌, ◌<◌}
use native.Mathlib.Omega.{arith}
use native.Mathlib.Decide.{dec_lt}
use borrow.Author.Tests.{eqb-true, eqb-false, eq-eqb, ne_eqb, not-true}
use Rattle.moment.proofs.Tests.{tests}
use Rattle.table.specs.Free.{is_free}
use Rattle.table.specs.Pair.{free, deleted, routing, state_of, link_of, lock_of}
use Rattle.table.specs.declared.Which.{Which}
use Rattle.table.specs.declared.Which.TheVariants.{State, Edge}
use Rattle.protocol.specs.Plan.{present, plan, action_at}
use Rattle.protocol.specs.Locks.{state_fits, links_fit, clear, granted}
use Rattle.protocol.specs.Stores.{fit}
use Rattle.protocol.specs.declared.Phase.{Phase}
use Rattle.protocol.specs.declared.Phase.TheVariants.{New, Two, UnderRouting}
use Rattle.protocol.specs.declared.Links.{Links}
use Rattle.protocol.specs.declared.Links.TheVariants.{Any, Is, Neither, Both}
use Rattle.protocol.specs.declared.Action.TheVariants.{Mark}
use Rattle.protocol.proofs.HeldLaws.{weighs, held}

-- A lock's expectation is tested in the step that takes it

-- what a link expectation says of the slot
abbrev pub LinksAre : List ℕ → ℕ → Links → Type 0
LinksAre ws slot Any = Unit {0}
LinksAre ws slot (Is side child) = link_of ws slot side ≡ child
LinksAre ws slot Neither = (link_of ws slot true ≡ 0) × (link_of ws slot false ≡ 0)
LinksAre ws slot Both = (link_of ws slot true ≢ 0) × (link_of ws slot false ≢ 0)

pub links_are : (ws : List ℕ) (slot : ℕ) (links : Links) → links_fit ws slot links ≡ true → LinksAre ws slot links
unfolding links_fit
links_are ws slot Any e = tt
links_are ws slot (Is side child) e = eqb-true _ _ e
links_are ws slot Neither e = let h = simp tests at e in (h.0, h.1)
links_are ws slot Both e = let h = simp tests at e in (eqb-false _ _ (not-true _ h.0), eqb-false _ _ (not-true _ h.1))

pub present_is : (s : ℕ) → state_fits present s ≡ true → s ≢ deleted
unfolding state_fits
present_is s e = eqb-false _ _ (not-true _ e)

pub state_is : (want s : ℕ) → want ≢ present → state_fits want s ≡ true → s ≡ want
unfolding state_fits
state_is want s d = rw (ne_eqb _ _ d) (eqb-true s want)

pub granted_tells : (ws : List ℕ) (slot : ℕ) (which : Which) (write : Bool) (state : ℕ) (links : Links)
    → granted ws slot which write state links ≡ true
    → (state_fits state (state_of ws slot) ≡ true) × LinksAre ws slot links × (clear write (lock_of ws slot which) ≡ true)
unfolding granted
granted_tells ws slot which write state links e =
    let h = simp tests at e in
    (h.0.0, links_are ws slot links h.0.1, h.1)

-- A lock that is done is held

pub held_has : (p : Phase) (n i j : ℕ) (l : Which) → i < n → weighs (action_at p i) j l ≤ held p n j l
unfolding held
held_has p zero i j l h = absurd (omega arith)
held_has p (suc n) i j l h = go (held_has p n i j l) (dec_lt i n)
  where
    go : (i < n → weighs (action_at p i) j l ≤ held p n j l) → Dec (i < n)
        → weighs (action_at p i) j l ≤ held p n j l + weighs (action_at p n) j l
    go on (yes k) = omega (arith, on k)
    go on (no k) =
        let e : i ≡ n = omega arith in
        rw e (omega arith)

-- A routing parent is removed with the edge to its other child held
pub other_edge_held : (this prev : ℕ) (side : Bool) (before : ℕ) (up : Bool) (other done n : ℕ) → 3 ≤ n
    → 2 ≤ held (UnderRouting this prev side before up other done) n prev (Edge (not side))
unfolding action_at plan
other_edge_held this prev true before up other done n h =
    let k = held_has (UnderRouting this prev true before up other done) n 2 prev (Edge false) (omega arith) in
    rw (eq-eqb prev prev refl) at k
other_edge_held this prev false before up other done n h =
    let k = held_has (UnderRouting this prev false before up other done) n 2 prev (Edge true) (omega arith) in
    rw (eq-eqb prev prev refl) at k

-- A frame is hung under a slot whose state is held for reading, and that was not deleted when the lock was given
pub parent_held : (prev : ℕ) (side : Bool) (done n : ℕ) → 2 ≤ n → 2 ≤ held (New prev side done) n prev State
unfolding action_at plan
parent_held prev side done n h =
    let k = held_has (New prev side done) n 1 prev State (omega arith) in
    rw (eq-eqb prev prev refl) at k

-- A deleted slot is not taken again
pub fit_free : (ws : List ℕ) (i : ℕ) → fit ws i ≡ true → state_of ws i ≡ free
unfolding fit is_free
fit_free ws i e = eqb-true _ _ e

-- A slot with two children becomes routing
pub two_routes : (this done : ℕ) → action_at (Two this done) 1 ≡ Mark this routing
unfolding action_at plan
two_routes this done = refl
