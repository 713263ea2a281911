-- An answer is what it says: no two refusals have one number, and two answers that say the same are one. So a promise of what an
-- answer says leaves one answer.
-- Assumes nothing.
use Rattle.std.specs.Prelude.{◌≡◌, ℕ, cond, eqb, Result, Ok, Err, IsErrAnd, false}
use mathlib.Core.Path.{refl, sym, ap, ◌∙◌}
use Rattle.refusal.specs.Said.{Said, gives, refuses, number, said}
use Rattle.refusal.specs.declared.Refusal.{Refusal}
use Rattle.refusal.specs.declared.Refusal.TheVariants as why

-- the refusal that has a number
abbrev pub why_of : ℕ → Refusal
why_of n =
    cond (eqb n 1) why.Table
    (cond (eqb n 2) why.State
    (cond (eqb n 3) why.Range
    (cond (eqb n 4) why.Busy
    (cond (eqb n 6) why.Damaged
    (cond (eqb n 7) why.Stored
    (cond (eqb n 8) why.Working
    (cond (eqb n 9) why.Readers
    (cond (eqb n 10) why.Text
    (cond (eqb n 11) why.Beyond
    (cond (eqb n 12) why.Unknown why.None))))))))))

pub why_of-number : (e : Refusal) → why_of (number e) ≡ e
why_of-number why.Table = refl
why_of-number why.State = refl
why_of-number why.Range = refl
why_of-number why.Busy = refl
why_of-number why.Damaged = refl
why_of-number why.Stored = refl
why_of-number why.Working = refl
why_of-number why.Readers = refl
why_of-number why.Text = refl
why_of-number why.Beyond = refl
why_of-number why.Unknown = refl
why_of-number why.None = refl

pub number_one : (d e : Refusal) → number d ≡ number e → d ≡ e
number_one d e h = sym (why_of-number d) ∙ ap why_of h ∙ why_of-number e

-- the answer that says it
abbrev pub answer_of : {A : Type 0} → Said A → Result A Refusal
answer_of (gives a) = Ok a
answer_of (refuses n) = Err (why_of n)

pub answer_of-said : {A : Type 0} (r : Result A Refusal) → answer_of (said r) ≡ r
answer_of-said (Ok a) = refl
answer_of-said (Err e) = ap Err (why_of-number e)

pub said_one : {A : Type 0} (r r' : Result A Refusal) → said r ≡ said r' → r ≡ r'
said_one r r' h = sym (answer_of-said r) ∙ ap answer_of h ∙ answer_of-said r'

-- `?` hands a refusal on as it is
pub handed_on : {A : Type 0} {e : Refusal} (r : Result A Refusal) → IsErrAnd r (λ d. d ≡ e) → r ≡ Err e
handed_on (Ok a) h = absurd h
handed_on (Err d) h = ap Err h

-- no refusal has the number 0
pub number-eqb_zero : (e : Refusal) → eqb (number e) 0 ≡ false
number-eqb_zero why.Table = refl
number-eqb_zero why.State = refl
number-eqb_zero why.Range = refl
number-eqb_zero why.Busy = refl
number-eqb_zero why.Damaged = refl
number-eqb_zero why.Stored = refl
number-eqb_zero why.Working = refl
number-eqb_zero why.Readers = refl
number-eqb_zero why.Text = refl
number-eqb_zero why.Beyond = refl
number-eqb_zero why.Unknown = refl
number-eqb_zero why.None = refl
