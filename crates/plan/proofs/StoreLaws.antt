-- What one action has stored, the first n have, if it is among them.
-- Assumes nothing.
use Rattle.std.proofs.Common.{◌≡◌, ℕ, zero, suc, ◌<◌, Bool, true, false, ◌||◌, eqb, arith, refl}
use borrow.Author.Tests.{eqb-true, eqb-false}
use Rattle.protocol.specs.Plan.{action_at, is_store}
use Rattle.protocol.specs.Calls.{stored}
use Rattle.protocol.specs.declared.Phase.{Phase}

or_true : (b : Bool) → (b || true) ≡ true
or_true true = refl
or_true false = refl

last_or_before : (p : Phase) (i n : ℕ) (b : Bool) → eqb i n ≡ b → is_store (action_at p i) ≡ true → (b ≡ false → stored p n ≡ true)
    → (stored p n || is_store (action_at p n)) ≡ true
last_or_before p i n true q e before = rw (rw (eqb-true i n q) at e) (or_true (stored p n))
last_or_before p i n false q e before = rw (before refl)

pub stored_by : (p : Phase) (i n : ℕ) → i < n → is_store (action_at p i) ≡ true → stored p n ≡ true
unfolding stored
stored_by p i zero h e = absurd (omega (arith, h))
stored_by p i (suc n) h e =
    last_or_before p i n (eqb i n) refl e (λ f. stored_by p i n (let d = eqb-false i n f in omega (arith, h, d)) e)
