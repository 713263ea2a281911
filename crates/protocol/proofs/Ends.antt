-- Every end that a step can come to: to prove something of a step, prove it of each end, with the tests that lead there as
-- facts. So each law also says which answers a step can give, and the record and the words after each.
-- Assumes nothing.
use mathlib.Core.Path.{◌≡◌}
use mathlib.Core.Bool.{Bool, true, false, cond, not}
use mathlib.Core.List.{List}
use mathlib.Core.Logic.{◌≢◌}
use Prim.Native.Nat.{ℕ, ◌+◌}
use lib.Dec.{ltb, eqb}
use borrow.Author.Tests.{eqb-true, eqb-false}
use Rattle.moment.proofs.Tests.{by_cases}
use Rattle.table.specs.Pair.{as_data, deleted, key_of, state_of, link_of, lock_of, set_lock, set_link, zero_pair}
use Rattle.table.specs.declared.Which.{Which}
use Rattle.protocol.specs.Plan.{at_root}
use Rattle.protocol.specs.Locks.{Did, did, stopped, weight, crowded, granted, all_held, released, give_up, lock_step}
use Rattle.protocol.specs.Stores.{lowest_fit, taken, take_step}
use Rattle.protocol.specs.Walk.{removing, found, nothing, onward, visit, under, look}
use Rattle.protocol.specs.declared.Kind.TheVariants.{Lookup, Insert, Remove}
use Rattle.protocol.specs.declared.Phase.{Phase}
use Rattle.protocol.specs.declared.Phase.TheVariants.{Walk, OnRouting, New, Two, One, Leaf, UnderData, UnderRouting}
use Rattle.protocol.specs.declared.Links.{Links}
use Rattle.protocol.specs.declared.Answer.TheVariants.{Yes, No, Full}
use Rattle.protocol.specs.declared.Outcome.{Outcome}
use Rattle.protocol.specs.declared.Outcome.TheVariants.{Goes, Ends}
use Rattle.refusal.specs.declared.Refusal.TheVariants.{Damaged, Readers}

-- a test of equality: true or not, as a fact
pub by_eqb : (P : Outcome → Type 0) (a b : ℕ) {x y : Outcome} → (a ≡ b → P x) → (a ≢ b → P y) → P (cond (eqb a b) x y)
by_eqb P a b f g = by_cases P (eqb a b) (λ e. f (eqb-true a b e)) (λ e. g (eqb-false a b e))

-- giving up
pub give_up_ends : (P : Did → Type 0) (ws : List ℕ) (p : Phase) (n : ℕ) (then : Outcome)
    → (all_held ws p n ≡ true → P (did then (released ws p n)))
    → (all_held ws p n ≡ false → P (stopped Damaged ws))
    → P (give_up ws p n then)
unfolding give_up
give_up_ends P ws p n then up bad = by_cases P (all_held ws p n) up bad

-- a lock: given; 9; given up, and the work restarts; 6
pub lock_ends : (P : Did → Type 0) (ws : List ℕ) (p : Phase) (n : ℕ) (next : Phase) (slot : ℕ) (which : Which) (write : Bool) (state : ℕ) (links : Links)
    → (granted ws slot which write state links ≡ true → crowded write (lock_of ws slot which) ≡ false
    → P (did (Goes next) (set_lock ws slot which (lock_of ws slot which + weight write))))
    → (granted ws slot which write state links ≡ true → crowded write (lock_of ws slot which) ≡ true → P (stopped Readers ws))
    → (granted ws slot which write state links ≡ false → all_held ws p n ≡ true → P (did (Goes at_root) (released ws p n)))
    → (granted ws slot which write state links ≡ false → all_held ws p n ≡ false → P (stopped Damaged ws))
    → P (lock_step ws p n next slot which write state links)
unfolding lock_step
lock_ends P ws p n next slot which write state links given nine restarts six =
    by_cases P (granted ws slot which write state links)
    (λ g. by_cases P (crowded write (lock_of ws slot which)) (nine g) (given g))
    (λ g. give_up_ends P ws p n (Goes at_root) (restarts g) (six g))

-- insert's store: the lowest slot that is fit is taken and linked; Full; 6
pub take_ends : (P : Did → Type 0) (ws : List ℕ) (key : ℕ) (p : Phase) (n : ℕ) (next : Phase) (prev : ℕ) (side : Bool)
    → (lowest_fit ws ≢ 0 → zero_pair ws (lowest_fit ws) ≡ true
    → P (did (Goes next) (set_link (taken ws (lowest_fit ws) key) prev side (lowest_fit ws))))
    → (lowest_fit ws ≡ 0 → all_held ws p n ≡ true → P (did (Ends Full) (released ws p n)))
    → (lowest_fit ws ≡ 0 → all_held ws p n ≡ false → P (stopped Damaged ws))
    → (lowest_fit ws ≢ 0 → zero_pair ws (lowest_fit ws) ≡ false → P (stopped Damaged ws))
    → P (take_step ws key p n next prev side)
unfolding take_step
take_ends P ws key p n next prev side took none bad dirty =
    by_cases P (eqb (lowest_fit ws) 0)
    (λ e. give_up_ends P ws p n (Ends Full) (none (eqb-true _ _ e)) (bad (eqb-true _ _ e)))
    (λ e. by_cases P (zero_pair ws (lowest_fit ws)) (took (eqb-false _ _ e)) (dirty (eqb-false _ _ e)))

-- remove, on a data slot
pub removing_ends : (P : Outcome → Type 0) (l r at prev before : ℕ) (side up : Bool)
    → (l ≡ 0 → r ≡ 0 → P (Goes (Leaf at prev side before up)))
    → (l ≡ 0 → r ≢ 0 → P (Goes (One at prev side r false 0)))
    → (l ≢ 0 → r ≡ 0 → P (Goes (One at prev side l true 0)))
    → (l ≢ 0 → r ≢ 0 → P (Goes (Two at 0)))
    → P (removing l r at prev before side up)
unfolding removing
removing_ends P l r at prev before side up leaf right left two =
    by_eqb P l 0 (λ e. by_eqb P r 0 (leaf e) (right e)) (λ e. by_eqb P r 0 (left e) (two e))

-- the side of slot at on which the wanted key lies
abbrev pub side_of : List ℕ → ℕ → ℕ → Bool
side_of ws key at = ltb key (key_of ws at)

-- a visit by a lookup, by an insert, by a remove: on the wanted key, at nothing, or onward
pub lookup_ends : (P : Outcome → Type 0) (ws : List ℕ) (key at prev before : ℕ) (side up : Bool)
    → (key_of ws at ≡ key → state_of ws at ≡ as_data → P (Ends Yes))
    → (key_of ws at ≡ key → state_of ws at ≢ as_data → P (Ends No))
    → (key_of ws at ≢ key → link_of ws at (side_of ws key at) ≡ 0 → P (Ends No))
    → (key_of ws at ≢ key → link_of ws at (side_of ws key at) ≢ 0
    → P (Goes (Walk (link_of ws at (side_of ws key at)) at prev (side_of ws key at) side)))
    → P (visit ws Lookup key at prev before side up)
unfolding visit found onward nothing
lookup_ends P ws key at prev before side up there other none on =
    by_eqb P (key_of ws at) key
    (λ k. by_eqb P (state_of ws at) as_data (there k) (other k))
    (λ k. by_eqb P (link_of ws at (side_of ws key at)) 0 (none k) (on k))

pub insert_ends : (P : Outcome → Type 0) (ws : List ℕ) (key at prev before : ℕ) (side up : Bool)
    → (key_of ws at ≡ key → state_of ws at ≡ as_data → P (Ends No))
    → (key_of ws at ≡ key → state_of ws at ≡ deleted → P (Goes at_root))
    → (key_of ws at ≡ key → state_of ws at ≢ as_data → state_of ws at ≢ deleted → P (Goes (OnRouting at 0)))
    → (key_of ws at ≢ key → link_of ws at (side_of ws key at) ≡ 0 → P (Goes (New at (side_of ws key at) 0)))
    → (key_of ws at ≢ key → link_of ws at (side_of ws key at) ≢ 0
    → P (Goes (Walk (link_of ws at (side_of ws key at)) at prev (side_of ws key at) side)))
    → P (visit ws Insert key at prev before side up)
unfolding visit found onward nothing
insert_ends P ws key at prev before side up there again routed new on =
    by_eqb P (key_of ws at) key
    (λ k. by_eqb P (state_of ws at) as_data (there k) (λ s. by_eqb P (state_of ws at) deleted (again k) (routed k s)))
    (λ k. by_eqb P (link_of ws at (side_of ws key at)) 0 (new k) (on k))

pub remove_ends : (P : Outcome → Type 0) (ws : List ℕ) (key at prev before : ℕ) (side up : Bool)
    → (key_of ws at ≡ key → state_of ws at ≢ as_data → P (Ends No))
    → (key_of ws at ≡ key → state_of ws at ≡ as_data → P (removing (link_of ws at true) (link_of ws at false) at prev before side up))
    → (key_of ws at ≢ key → link_of ws at (side_of ws key at) ≡ 0 → P (Ends No))
    → (key_of ws at ≢ key → link_of ws at (side_of ws key at) ≢ 0
    → P (Goes (Walk (link_of ws at (side_of ws key at)) at prev (side_of ws key at) side)))
    → P (visit ws Remove key at prev before side up)
unfolding visit found onward nothing
remove_ends P ws key at prev before side up other here none on =
    by_eqb P (key_of ws at) key
    (λ k. by_eqb P (state_of ws at) as_data (here k) (other k))
    (λ k. by_eqb P (link_of ws at (side_of ws key at)) 0 (none k) (on k))

-- the leaf's look at previous
pub look_ends : (P : Outcome → Type 0) (ws : List ℕ) (this prev : ℕ) (side : Bool) (before : ℕ) (up : Bool)
    → (state_of ws prev ≡ deleted → P (Goes at_root))
    → (state_of ws prev ≡ as_data → P (Goes (UnderData this prev side 0)))
    → (state_of ws prev ≢ deleted → state_of ws prev ≢ as_data → link_of ws prev (not side) ≡ 0 → P (Goes at_root))
    → (state_of ws prev ≢ deleted → state_of ws prev ≢ as_data → link_of ws prev (not side) ≢ 0
    → P (Goes (UnderRouting this prev side before up (link_of ws prev (not side)) 0)))
    → P (look ws this prev side before up)
unfolding look under
look_ends P ws this prev side before up gone under lone routed =
    by_eqb P (state_of ws prev) deleted gone
    (λ d. by_eqb P (state_of ws prev) as_data under
    (λ s. by_eqb P (link_of ws prev (not side)) 0 (lone d s) (routed d s)))
