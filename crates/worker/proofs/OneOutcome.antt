-- For every input the promises of these functions leave one answer and one content of the words; `start`, `step` and `withdraw` have theirs
-- in protocol/proofs/AnswerLaws.antt. `walk_quick` promises one direction only (docs/PROMISES.md, "Exceptions").
-- Assumes nothing.
use mathlib.Core.Path.{◌≡◌, sym, ap, ◌∙◌}
use mathlib.Core.Bool.{Bool}
use mathlib.Core.List.{List}
use Prim.Native.Nat.{ℕ}
use Rattle.protocol.specs.Walk.{visit}
use Rattle.std.specs.Prelude.{Result, Ok, Option}
use Rattle.refusal.specs.declared.Refusal.{Refusal}
use Rattle.protocol.specs.declared.Kind.{Kind}
use Rattle.protocol.specs.declared.Work.{Work}
use Rattle.protocol.specs.declared.Phase.{Phase}
use Rattle.protocol.specs.Step.{idle_worker}
use Rattle.protocol.specs.declared.Worker.{Worker}
use Rattle.acting.specs.Moves.{moved_of, step_move}
use Rattle.acting.specs.declared.Moved.{Moved}
use Rattle.worker.specs.Moving.{left_by, walk_fine, walk_to}

pub walk_fine_one : (ws : List ℕ) (key at prev before : ℕ) (a b : Bool) → a ≡ walk_fine ws key at prev before
    → b ≡ walk_fine ws key at prev before → a ≡ b
walk_fine_one ws key at prev before a b p q = p ∙ sym q

pub walk_to_one : (ws : List ℕ) (key at : ℕ) (a b : Option ℕ) → a ≡ walk_to ws key at → b ≡ walk_to ws key at → a ≡ b
walk_to_one ws key at a b p q = p ∙ sym q

pub visit_on_one : (ws : List ℕ) (kind : Kind) (key at prev before : ℕ) (side up : Bool) (a b : Moved) (x y : List ℕ)
    → let m = moved_of (visit ws kind key at prev before side up) in
    (a ≡ m) × (x ≡ left_by (Ok a) ws) → (b ≡ m) × (y ≡ left_by (Ok b) ws) → (a ≡ b) × (x ≡ y)
visit_on_one ws kind key at prev before side up a b x y p q = let e = p.0 ∙ sym q.0 in
    (e, p.1 ∙ ap (λ (z : Moved). left_by (Ok z) ws) e ∙ sym q.1)

pub leave_by_one : (ws : List ℕ) (m : Result Moved Refusal) (x y : List ℕ) → x ≡ left_by m ws → y ≡ left_by m ws → x ≡ y
leave_by_one ws m x y p q = p ∙ sym q

pub seats_one : (f : List ℕ → List ℕ) (ws x y : List ℕ) → x ≡ f ws → y ≡ f ws → x ≡ y
seats_one f ws x y p q = p ∙ sym q

pub move_on_one : (ws : List ℕ) (work : Work) (key : ℕ) (phase : Phase) (a b : Result Moved Refusal) (x y : List ℕ) → let m = step_move ws work key phase in
    (a ≡ m.said) × (x ≡ left_by a m.words) → (b ≡ m.said) × (y ≡ left_by b m.words) → (a ≡ b) × (x ≡ y)
move_on_one ws work key phase a b x y p q = let e = p.0 ∙ sym q.0 in
    (e, p.1 ∙ ap (λ (z : Result Moved Refusal). left_by z (step_move ws work key phase).words) e ∙ sym q.1)

pub idle_worker_one : (a b : Worker) → a ≡ idle_worker → b ≡ idle_worker → a ≡ b
idle_worker_one a b p q = p ∙ sym q
