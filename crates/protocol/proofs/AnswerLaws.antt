-- An answer is what it says: two answers that say the same are one, so a promise leaves one outcome.
-- Assumes nothing.
use mathlib.Core.Path.{◌≡◌, refl, sym, ap, ◌∙◌}
use mathlib.Core.Bool.{Bool, true, false, false≢true}
use mathlib.Core.List.{List}
use Prim.Native.Nat.{ℕ}
use Rattle.refusal.specs.Said.{Said, gives, refuses, said}
use Rattle.refusal.proofs.SaidLaws.{why_of, why_of-number, said_one}
use Rattle.protocol.specs.Says.{Verdict, going, yes, no, full, answer_says}
use Rattle.protocol.specs.Step.{step_of}
use Rattle.protocol.specs.Calls.{start_of, withdraw_of}
use Rattle.protocol.specs.declared.Kind.{Kind}
use Rattle.protocol.specs.declared.Worker.{Worker}
use Rattle.protocol.specs.declared.Answer.{Answer}
use Rattle.protocol.specs.declared.Answer.TheVariants.{Going, Yes, No, Full, Refused}
use Rattle.protocol.specs.declared.Stepped.{Stepped}
use Rattle.protocol.specs.declared.Replied.{Replied}

-- a value is no refusal
abbrev pub is_refusal : {A : Type 0} → Said A → Bool
is_refusal (gives a) = false
is_refusal (refuses n) = true

pub gave : {A : Type 0} {a : A} {n : ℕ} → gives a ≡ refuses n → ⊥
gave e = false≢true (ap is_refusal e)

-- a refusal's number, and one that is given
abbrev pub refusal_of : {A : Type 0} → Said A → ℕ
refusal_of (gives a) = 0
refusal_of (refuses n) = n

abbrev pub given_or : {A : Type 0} → A → Said A → A
given_or d (gives a) = a
given_or d (refuses n) = d

-- the answer that says it
abbrev pub answer_of : Said Verdict → Answer
answer_of (gives going) = Going
answer_of (gives yes) = Yes
answer_of (gives no) = No
answer_of (gives full) = Full
answer_of (refuses n) = Refused (why_of n)

pub answer_of_lem : (a : Answer) → answer_of (answer_says a) ≡ a
answer_of_lem Going = refl
answer_of_lem Yes = refl
answer_of_lem No = refl
answer_of_lem Full = refl
answer_of_lem (Refused e) = ap Refused (why_of-number e)

pub answer_one : (a b : Answer) → answer_says a ≡ answer_says b → a ≡ b
answer_one a b e = sym (answer_of_lem a) ∙ ap answer_of e ∙ answer_of_lem b

-- what a call promises of its result and of the words after it
abbrev pub Steps : List ℕ → Worker → Stepped → List ℕ → Type 0
Steps ws w r vs = (answer_says r.answer ≡ (step_of ws w).says) × (r.worker ≡ (step_of ws w).worker) × (vs ≡ (step_of ws w).words)

abbrev pub Starts : List ℕ → Worker → Kind → ℕ → Replied → List ℕ → Type 0
Starts ws w kind key r vs =
    (said r.reply ≡ (start_of ws w kind key).says) × (r.worker ≡ (start_of ws w kind key).worker) × (vs ≡ (start_of ws w kind key).words)

abbrev pub Withdraws : List ℕ → Worker → Replied → List ℕ → Type 0
Withdraws ws w r vs =
    (said r.reply ≡ (withdraw_of ws w).says) × (r.worker ≡ (withdraw_of ws w).worker) × (vs ≡ (withdraw_of ws w).words)

-- any two outcomes that it allows are equal
pub step_one : (ws : List ℕ) (w : Worker) (r r' : Stepped) (vs vs' : List ℕ) → Steps ws w r vs → Steps ws w r' vs'
    → (r.answer ≡ r'.answer) × (r.worker ≡ r'.worker) × (vs ≡ vs')
step_one ws w r r' vs vs' a b =
    (answer_one r.answer r'.answer (a.0 ∙ sym b.0), a.1 ∙ sym b.1, a.2 ∙ sym b.2)

pub start_one : (ws : List ℕ) (w : Worker) (kind : Kind) (key : ℕ) (r r' : Replied) (vs vs' : List ℕ)
    → Starts ws w kind key r vs → Starts ws w kind key r' vs' → (r.reply ≡ r'.reply) × (r.worker ≡ r'.worker) × (vs ≡ vs')
start_one ws w kind key r r' vs vs' a b =
    (said_one r.reply r'.reply (a.0 ∙ sym b.0), a.1 ∙ sym b.1, a.2 ∙ sym b.2)

pub withdraw_one : (ws : List ℕ) (w : Worker) (r r' : Replied) (vs vs' : List ℕ) → Withdraws ws w r vs → Withdraws ws w r' vs'
    → (r.reply ≡ r'.reply) × (r.worker ≡ r'.worker) × (vs ≡ vs')
withdraw_one ws w r r' vs vs' a b =
    (said_one r.reply r'.reply (a.0 ∙ sym b.0), a.1 ∙ sym b.1, a.2 ∙ sym b.2)
