-- Laws of the plan: what lies past its end, and that a record whose roles are fine is not past it.
-- Assumes nothing.
use mathlib.Core.Path.{◌≡◌, sym}
use mathlib.Core.Bool.{true}
use mathlib.Core.List.{List}
use Prim.Native.Nat.{ℕ, zero, suc, ◌≤◌, ◌<◌}
use native.Mathlib.Omega.{arith}
use lib.ListN.{length, get_or-eq_default}
use Rattle.moment.proofs.Tests.{tests}
use Rattle.table.specs.Pair.{slots_of}
use Rattle.protocol.specs.Plan.{plan, action_at, done_of}
use Rattle.protocol.specs.Record.{roles, record_fine}
use Rattle.protocol.specs.declared.Kind.{Kind}
use Rattle.protocol.specs.declared.Phase.{Phase}
use Rattle.protocol.specs.declared.Phase.TheVariants.{Walk, OnRouting, New, Two, One, Leaf, UnderData, UnderRouting}
use Rattle.protocol.specs.declared.Action.TheVariants.{Beyond}

-- a number that is none of 0, 1, .. , n - 1, as a `match` leaves it
abbrev pub Past : ℕ → ℕ → Type 0
Past i zero = Unit {0}
Past i (suc k) = Past i k × (i ≡ k → ⊥)

pub past : (i n : ℕ) → Past i n → n ≤ i
past i zero p = omega arith
past i (suc n) p = let a = past i n p.0 in let b = p.1 in omega arith

pub beyond : (p : Phase) (i : ℕ) → length (plan p) ≤ i → Beyond ≡ action_at p i
unfolding action_at
beyond p i h = sym (get_or-eq_default (plan p) Beyond h)

-- a record whose roles are fine is within its plan
pub roles_done : (n : ℕ) (kind : Kind) (p : Phase) → roles n kind p ≡ true → done_of p < length (plan p)
unfolding roles plan
roles_done n kind (Walk at prev before side up) e = omega arith
roles_done n kind (OnRouting this done) e = let h = simp tests at e in h.1
roles_done n kind (New prev side done) e = let h = simp tests at e in h.1
roles_done n kind (Two this done) e = let h = simp tests at e in h.1
roles_done n kind (One this prev side child toward done) e = let h = simp tests at e in h.1
roles_done n kind (Leaf this prev side before up) e = omega arith
roles_done n kind (UnderData this prev side done) e = let h = simp tests at e in h.1
roles_done n kind (UnderRouting this prev side before up other done) e = let h = simp tests at e in h.1

-- no plan is longer than nine
pub plan_length : (p : Phase) → length (plan p) ≤ 9
unfolding plan
plan_length (Walk at prev before side up) = omega arith
plan_length (OnRouting this done) = omega arith
plan_length (New prev side done) = omega arith
plan_length (Two this done) = omega arith
plan_length (One this prev side child toward done) = omega arith
plan_length (Leaf this prev side before up) = omega arith
plan_length (UnderData this prev side done) = omega arith
plan_length (UnderRouting this prev side before up other done) = omega arith

pub record_roles : (ws : List ℕ) (kind : Kind) (key : ℕ) (p : Phase) → record_fine ws kind key p ≡ true → roles (slots_of ws) kind p ≡ true
unfolding record_fine
record_roles ws kind key p e = let h = simp tests at e in h.0.1

pub record_done : (ws : List ℕ) (kind : Kind) (key : ℕ) (p : Phase) → record_fine ws kind key p ≡ true → done_of p < 9
record_done ws kind key p e = omega (arith, roles_done (slots_of ws) kind p (record_roles ws kind key p e), plan_length p)
