-- The numbers tell a step's answers apart: from the number the answer is known.
-- Assumes nothing.
use mathlib.Core.Path.{◌≡◌, refl, sym, ap, ◌∙◌}
use mathlib.Core.Bool.{cond}
use mathlib.Core.Logic.{⊎_elim}
use mathlib.Core.List.{List}
use Prim.Native.Nat.{ℕ}
use lib.Dec.{eqb}
use Rattle.refusal.specs.Said.{Said, gives, refuses}
use Rattle.protocol.specs.Says.{Verdict, going, yes, no, full}
use Rattle.protocol.specs.Plan.{action_of}
use Rattle.protocol.specs.Step.{step_of}
use Rattle.protocol.specs.declared.Worker.{Worker}
use Rattle.protocol.specs.declared.Action.{Action}
use Rattle.protocol.specs.declared.Action.TheVariants.{Visit, Look, Lock, Mark, Link, Take, End, Beyond}
use Rattle.protocol.proofs.StepLaws.{step_ends, May, act_may}
use Rattle.calls.specs.Numbers.{verdict_number}

-- what a step says: a verdict, or one of its four refusals
pub data Told (s : Said Verdict) : Type 0 where
  verdict : (v : Verdict) → s ≡ gives v → Told s
  table : s ≡ refuses 1 → Told s
  idle : s ≡ refuses 2 → Told s
  damaged : s ≡ refuses 6 → Told s
  readers : s ≡ refuses 9 → Told s

may_told : (a : Action) (s : Said Verdict) → May a s → Told s
may_told (Visit at prev before side up) s m =
    ⊎_elim (λ e. verdict going e) (⊎_elim (λ e. verdict yes e) (λ e. verdict no e)) m
may_told (Look this prev side before up) s m = verdict going m
may_told (Lock slot which write state links) s m =
    ⊎_elim (λ e. verdict going e) (⊎_elim (λ e. damaged e) (λ e. readers e)) m
may_told (Mark slot to) s m = verdict going m
may_told (Link slot side to) s m = verdict going m
may_told (Take prev side) s m = ⊎_elim (λ e. verdict going e) (⊎_elim (λ e. verdict full e) (λ e. damaged e)) m
may_told End s m = ⊎_elim (λ e. verdict yes e) (λ e. damaged e) m
may_told Beyond s m = damaged m

pub step_told : (ws : List ℕ) (w : Worker) → Told (step_of ws w).says
step_told ws w =
    step_ends (λ c. Told c.says) ws w (λ t. table refl) (λ t e. idle refl) (λ kind t e f. damaged refl)
    (λ kind t e f r. may_told (action_of w.phase) _ (act_may w ws kind w.key w.phase _ _ (action_of w.phase)))

-- the answer that a number is
pub answer_of : ℕ → Said Verdict
answer_of n =
    cond (eqb n 0) (gives going) (cond (eqb n 16) (gives yes) (cond (eqb n 17) (gives no) (cond (eqb n 5) (gives full) (refuses n))))

verdict_back : (v : Verdict) → answer_of (verdict_number (gives v)) ≡ gives v
unfolding answer_of
verdict_back going = refl
verdict_back yes = refl
verdict_back no = refl
verdict_back full = refl

pub number_back : (s : Said Verdict) → Told s → answer_of (verdict_number s) ≡ s
unfolding answer_of
number_back s (verdict v e) = rw e (verdict_back v)
number_back s (table e) = rw e
number_back s (idle e) = rw e
number_back s (damaged e) = rw e
number_back s (readers e) = rw e

-- two steps with one number have one answer
pub step_numbers : (ws vs : List ℕ) (w v : Worker) → verdict_number (step_of ws w).says ≡ verdict_number (step_of vs v).says
    → (step_of ws w).says ≡ (step_of vs v).says
step_numbers ws vs w v e =
    sym (number_back _ (step_told ws w)) ∙ ap answer_of e ∙ number_back _ (step_told vs v)
