-- A step that is told is the protocol's step, and one that goes on by the plan found fewer than nine actions done.
-- Assumes nothing.
use mathlib.Core.Path.{◌≡◌, refl, sym, ap, ◌∙◌}
use mathlib.Core.List.{List}
use Prim.Native.Nat.{ℕ, ◌<◌}
use Rattle.protocol.specs.Says.{Verdict}
use Rattle.protocol.specs.Plan.{done_of, next_of}
use Rattle.protocol.specs.Locks.{Did}
use Rattle.protocol.specs.Step.{Call, settled, step_of}
use Rattle.protocol.specs.declared.Worker.{Worker}
use Rattle.acting.specs.Moves.{said_in, as_did}
use Rattle.acting.specs.declared.Moved.{Moved}
use Rattle.acting.specs.declared.Moved.TheVariants.{On, To, Over}
use Rattle.std.specs.Prelude.{Result, Ok, Err}
use Rattle.refusal.specs.declared.Refusal.{Refusal}
use Rattle.acting.proofs.MoveLaws.{step_moves, goes_done}
use Rattle.worker.specs.Moving.{left_by, move_says, move_worker, move_of}

told : Worker → Result Moved Refusal → List ℕ → Call Verdict
told w m ws = record { says = move_says m; worker = move_worker w m; words = left_by m ws }

settled_told : (w : Worker) (m : Result Moved Refusal) (ws : List ℕ) → settled w (said_in w.phase m) ws ≡ told w m ws
unfolding settled told left_by
settled_told w (Ok On) ws = refl
settled_told w (Ok (To p)) ws = refl
settled_told w (Ok (Over a)) ws = refl
settled_told w (Err e) ws = refl

step_told : (ws : List ℕ) (w : Worker) → step_of ws w ≡ told w (move_of ws w).said (move_of ws w).words
unfolding step_of as_did
step_told ws w =
    ap (λ (d : Did). settled w d.said d.words) (sym (step_moves ws w.work w.key w.phase))
    ∙ settled_told w (move_of ws w).said (move_of ws w).words

-- A STEP THAT IS TOLD SAYS WHAT THE PROTOCOL'S SAYS, AND LEAVES ITS RECORD AND ITS WORDS; x is what a `match` finds it to be
pub told_as : (ws vs : List ℕ) (w : Worker) (m x : Result Moved Refusal) → m ≡ (move_of ws w).said → m ≡ x → vs ≡ left_by m (move_of ws w).words
    → (move_says x ≡ (step_of ws w).says) × (move_worker w x ≡ (step_of ws w).worker) × (vs ≡ (step_of ws w).words)
unfolding told
told_as ws vs w m x e g q =
    let c = sym (step_told ws w) in
    let f = sym g ∙ e in (
      ap move_says f ∙ ap (λ (d : Call Verdict). d.says) c,
      ap (move_worker w) f ∙ ap (λ (d : Call Verdict). d.worker) c,
      q ∙ ap (λ (y : Result Moved Refusal). left_by y (move_of ws w).words) e ∙ ap (λ (d : Call Verdict). d.words) c,
    )

-- fewer than nine
pub on_done : (ws : List ℕ) (w : Worker) → Ok On ≡ (move_of ws w).said → done_of w.phase < 9
unfolding as_did
on_done ws w e =
    goes_done ws w.work w.key w.phase (next_of w.phase)
    (ap (λ (d : Did). d.said) (sym (step_moves ws w.work w.key w.phase)) ∙ ap (said_in w.phase) (sym e))
