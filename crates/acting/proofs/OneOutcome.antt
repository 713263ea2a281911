-- For every input the promise leaves one outcome and one content of the words: any two that it allows are equal.
-- Assumes nothing.
use mathlib.Core.Path.{◌≡◌, sym, ◌∙◌}
use mathlib.Core.List.{List}
use Prim.Native.Nat.{ℕ}
use Rattle.std.specs.Prelude.{Result}
use Rattle.refusal.specs.declared.Refusal.{Refusal}
use Rattle.protocol.specs.declared.Work.{Work}
use Rattle.protocol.specs.declared.Phase.{Phase}
use Rattle.acting.specs.Moves.{step_move}
use Rattle.acting.specs.declared.Moved.{Moved}

pub step_on_one : (ws : List ℕ) (work : Work) (key : ℕ) (phase : Phase) (a b : Result Moved Refusal) (x y : List ℕ)
    → (a ≡ (step_move ws work key phase).said) × (x ≡ (step_move ws work key phase).words)
    → (b ≡ (step_move ws work key phase).said) × (y ≡ (step_move ws work key phase).words) → (a ≡ b) × (x ≡ y)
step_on_one ws work key phase a b x y p q = (p.0 ∙ sym q.0, p.1 ∙ sym q.1)
