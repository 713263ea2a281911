-- One outcome: every promise of this crate gives each thing that comes out as a definition of what goes in, so any two outcomes that it
-- allows are equal. (`in_words::whole` has three things that come out: `one_of_three` of calls.)
-- Assumes nothing.
use mathlib.Core.Path.{◌≡◌, sym, ◌∙◌}
use mathlib.Core.List.{List}
use Prim.Native.Nat.{ℕ}
use Rattle.protocol.specs.declared.Answer.{Answer}
use Rattle.protocol.specs.declared.Worker.{Worker}
use Rattle.protocol.proofs.AnswerLaws.{answer_one}
use Rattle.calls.proofs.OneOutcome.{one, one_of_three}
use Rattle.runs.specs.Whole.{most_steps, Ran}
use Rattle.runs.specs.Running.{Comes}

pub most_steps_one : (ws : List ℕ) (a b : ℕ) → a ≡ most_steps ws → b ≡ most_steps ws → a ≡ b
most_steps_one ws a b p q = p ∙ sym q

-- `by_value::steps` and `by_value::whole`
pub ran_one : (r : Ran) (a b : Answer) (u v : Worker) (m n : ℕ) (x y : List ℕ) → Comes r a u m x → Comes r b v n y
    → (a ≡ b) × (u ≡ v) × (m ≡ n) × (x ≡ y)
ran_one r a b u v m n x y p q =
    (answer_one a b (p.0 ∙ sym q.0), p.1 ∙ sym q.1, p.2 ∙ sym q.2, p.3 ∙ sym q.3)

-- `in_words::to_end`
pub one_of_three_and_steps : {A B C D : Type 0} {p a a' : A} {q b b' : B} {r c c' : C} {s d d' : D}
    → ((a ≡ p) × (b ≡ q) × (c ≡ r)) × (d ≡ s) → ((a' ≡ p) × (b' ≡ q) × (c' ≡ r)) × (d' ≡ s)
    → ((a ≡ a') × (b ≡ b') × (c ≡ c')) × (d ≡ d')
one_of_three_and_steps e e' = (one_of_three e.0 e'.0, one e.1 e'.1)
