-- For every input each promise leaves one answer, one record and one content of the words: any two outcomes that it allows
-- are equal.
-- Assumes nothing.
use mathlib.Core.Path.{◌≡◌, sym, ◌∙◌}
use mathlib.Core.List.{List}
use Prim.Native.Nat.{ℕ}
use Rattle.std.specs.Prelude.{Result}
use Rattle.refusal.specs.Said.{said}
use Rattle.refusal.specs.declared.Refusal.{Refusal}
use Rattle.refusal.proofs.SaidLaws.{said_one}
use Rattle.protocol.specs.Says.{answer_says}
use Rattle.protocol.specs.Step.{step_of}
use Rattle.protocol.specs.Calls.{start_of, withdraw_of}
use Rattle.protocol.specs.declared.Answer.{Answer}
use Rattle.protocol.specs.declared.Kind.{Kind}
use Rattle.protocol.specs.declared.Worker.{Worker}
use Rattle.protocol.proofs.AnswerLaws.{answer_one}
use Rattle.lent.specs.Did.{Did}

-- the answers a, b with the records x, y and the words us, vs
pub start_one : (ws : List ℕ) (w : Worker) (kind : Kind) (key : ℕ) (a b : Result (Unit {0}) Refusal) (x y : Worker) (us vs : List ℕ)
    → Did (start_of ws w kind key) (said a) x us → Did (start_of ws w kind key) (said b) y vs → (a ≡ b) × (x ≡ y) × (us ≡ vs)
start_one ws w kind key a b x y us vs p q = (said_one a b (p.0 ∙ sym q.0), p.1 ∙ sym q.1, p.2 ∙ sym q.2)

pub step_one : (ws : List ℕ) (w : Worker) (a b : Answer) (x y : Worker) (us vs : List ℕ)
    → Did (step_of ws w) (answer_says a) x us → Did (step_of ws w) (answer_says b) y vs → (a ≡ b) × (x ≡ y) × (us ≡ vs)
step_one ws w a b x y us vs p q = (answer_one a b (p.0 ∙ sym q.0), p.1 ∙ sym q.1, p.2 ∙ sym q.2)

pub withdraw_one : (ws : List ℕ) (w : Worker) (a b : Result (Unit {0}) Refusal) (x y : Worker) (us vs : List ℕ)
    → Did (withdraw_of ws w) (said a) x us → Did (withdraw_of ws w) (said b) y vs → (a ≡ b) × (x ≡ y) × (us ≡ vs)
withdraw_one ws w a b x y us vs p q = (said_one a b (p.0 ∙ sym q.0), p.1 ∙ sym q.1, p.2 ∙ sym q.2)
