-- A WHOLE WORK AS A CALL. On a calm table it ends with the answer of demand 2 (`completes`); a refused start leaves all as it was
-- (`whole_refused`); a work that has not ended is busy still (`whole_going`). The words stand in specs/Whole.antt.
-- Assumes nothing.
use mathlib.Core.Path.{◌≡◌, refl, sym, ap, ◌∙◌, subst}
use mathlib.Core.Bool.{Bool, true, false, false≢true}
use mathlib.Core.List.{List}
use mathlib.Core.Logic.{◌≢◌}
use Prim.Native.Nat.{ℕ, zero, suc, ◌+◌, ◌-◌, ◌≤◌, ◌<◌}
use native.Mathlib.Omega.{arith}
use Rattle.refusal.specs.Said.{Said, gives, refuses}
use Rattle.moment.specs.Key.{legal_of}
use Rattle.protocol.specs.Says.{Verdict, going, yes, no, full}
use Rattle.protocol.specs.Step.{Call, refused, step_of}
use Rattle.protocol.specs.Calls.{start_of}
use Rattle.protocol.specs.Alone.{Calm, Runs, last, more, Answers}
use Rattle.runs.specs.Whole.{most_steps, Ran, goes_on, no_step, one_more, steps_of, rest_of, begun, whole_of, Completes}
use Rattle.protocol.specs.declared.Kind.{Kind}
use Rattle.protocol.specs.declared.Work.TheVariants.{Idle, Busy}
use Rattle.protocol.specs.declared.Worker.{Worker}
use Rattle.protocol.proofs.AnswerLaws.{gave}
use Rattle.protocol.proofs.StepLaws.{step_going}
use Rattle.protocol.proofs.CallLaws.{start_refused, start_ends}
use Rattle.protocol.proofs.ChangeLaws.{start_length}
use Rattle.protocol.proofs.Alone.Demand.{alone}

-- ONE STEP OF MANY

-- Going is what goes on, and nothing else is
pub going_on : (s : Said Verdict) → goes_on s ≡ true → s ≡ gives going
going_on (gives going) e = refl
going_on (gives yes) e = absurd (false≢true e)
going_on (gives no) e = absurd (false≢true e)
going_on (gives full) e = absurd (false≢true e)
going_on (refuses n) e = absurd (false≢true e)

not_going : (v : Verdict) → v ≢ going → goes_on (gives v) ≡ false
not_going going n = absurd (n refl)
not_going yes n = refl
not_going no n = refl
not_going full n = refl

-- a step that goes on is followed by the others
pub steps_on : (n : ℕ) (ws : List ℕ) (w : Worker) → goes_on (step_of ws w).says ≡ true
    → steps_of (suc n) ws w ≡ one_more (steps_of n (step_of ws w).words (step_of ws w).worker)
unfolding steps_of
steps_on n ws w e = rw e

-- one that does not is the last
pub steps_end : (n : ℕ) (ws : List ℕ) (w : Worker) → goes_on (step_of ws w).says ≡ false
    → steps_of (suc n) ws w ≡ record { call = step_of ws w; steps = 1 }
unfolding steps_of
steps_end n ws w e = rw e

pub steps_none : (ws : List ℕ) (w : Worker) → steps_of 0 ws w ≡ no_step ws w
unfolding steps_of
steps_none ws w = refl

-- the same as a run that m steps were made before
abbrev pub after : ℕ → Ran → Ran
after m r = record { call = r.call; steps = m + r.steps }

-- STEPS, COUNTED: of at most `most` from ws and w, `made` were made, all of which went on, and led to vs and u
pub record Made (most : ℕ) (ws : List ℕ) (w : Worker) (made : ℕ) (vs : List ℕ) (u : Worker) : Type 0 where
  pub within : made ≤ most
  pub left : steps_of most ws w ≡ after made (steps_of (most - made) vs u)

pub made_none : (most : ℕ) (ws : List ℕ) (w : Worker) → Made most ws w 0 ws w
made_none most ws w =
    let e : most ≡ most - 0 = omega arith in
    let r = steps_of (most - 0) ws w in
    let k : r.steps ≡ 0 + r.steps = omega arith in
    record { within = omega arith; left = ap (λ (n : ℕ). steps_of n ws w) e ∙ ap (λ (n : ℕ). record { call = r.call; steps = n }) k }

pub made_one : {most : ℕ} {ws : List ℕ} {w : Worker} {made : ℕ} {vs : List ℕ} {u : Worker} → Made most ws w made vs u → made < most
    → goes_on (step_of vs u).says ≡ true → Made most ws w (made + 1) (step_of vs u).words (step_of vs u).worker
made_one {most} {ws} {w} {made} {vs} {u} m l g =
    let e : most - made ≡ suc (most - (made + 1)) = omega arith in
    let r = steps_of (most - (made + 1)) (step_of vs u).words (step_of vs u).worker in
    let k : made + suc r.steps ≡ made + 1 + r.steps = omega arith in
    record {
      within = omega arith;
      left = m.left ∙ ap (λ (n : ℕ). after made (steps_of n vs u)) e ∙ ap (after made) (steps_on _ vs u g)
          ∙ ap (λ (n : ℕ). record { call = r.call; steps = n }) k;
    }

pub made_last : {most : ℕ} {ws : List ℕ} {w : Worker} {made : ℕ} {vs : List ℕ} {u : Worker} → Made most ws w made vs u → made < most
    → goes_on (step_of vs u).says ≡ false → steps_of most ws w ≡ record { call = step_of vs u; steps = made + 1 }
made_last {most} {ws} {w} {made} {vs} {u} m l g =
    let e : most - made ≡ suc (most - (made + 1)) = omega arith in
    m.left ∙ ap (λ (n : ℕ). after made (steps_of n vs u)) e ∙ ap (after made) (steps_end _ vs u g)

pub made_all : {most : ℕ} {ws : List ℕ} {w : Worker} {made : ℕ} {vs : List ℕ} {u : Worker} → Made most ws w made vs u → most ≤ made
    → steps_of most ws w ≡ record { call = (no_step vs u).call; steps = made }
made_all {most} {ws} {w} {made} {vs} {u} m l =
    let e : most - made ≡ 0 = omega arith in
    let k : made + 0 ≡ made = omega arith in
    m.left ∙ ap (λ (n : ℕ). after made (steps_of n vs u)) e ∙ ap (after made) (steps_none vs u)
    ∙ ap (λ (n : ℕ). record { call = (no_step vs u).call; steps = n }) k

-- A RUN OF DEMAND 2 IS WHAT THE STEPS COME TO

run_steps : {v : Verdict} {vs : List ℕ} {u : Worker} {ws : List ℕ} {w : Worker} {m : ℕ} → Runs v vs u ws w m → (n : ℕ) → m ≤ n
    → steps_of n ws w ≡ record { call = record { says = gives v; worker = u; words = vs }; steps = m }
run_steps (last d e) zero h = absurd (omega arith)
run_steps {v} {ws = ws} {w = w} (last d e) (suc n) h =
    steps_end n ws w (ap (λ (c : Call Verdict). goes_on c.says) e ∙ not_going v d) ∙ ap (λ (c : Call Verdict). record { call = c; steps = 1 }) e
run_steps (more e r) zero h = absurd (omega arith)
run_steps {ws = ws} {w = w} (more e r) (suc n) h =
    steps_on n ws w (ap (λ (c : Call Verdict). goes_on c.says) e)
    ∙ ap (λ (c : Call Verdict). one_more (steps_of n c.words c.worker)) e
    ∙ ap one_more (run_steps r n (omega arith))

run_ended : {v : Verdict} {vs : List ℕ} {u : Worker} {ws : List ℕ} {w : Worker} {m : ℕ} → Runs v vs u ws w m → v ≢ going
run_ended (last d e) = d
run_ended (more e r) = run_ended r

-- A WHOLE WORK

-- a start that is done is followed by the steps
whole_started : (ws : List ℕ) (w : Worker) (kind : Kind) (k : ℕ) → (start_of ws w kind k).says ≡ gives tt
    → whole_of ws w kind k ≡ steps_of (most_steps ws) (start_of ws w kind k).words (start_of ws w kind k).worker
unfolding whole_of rest_of
whole_started ws w kind k e = rw (e, start_length ws w kind k)

-- IT ENDS AND ANSWERS: every kind of work, with every legal key, from every calm table and every idle record
pub completes : (ws : List ℕ) (w : Worker) (kind : Kind) (k : ℕ) → Calm ws → w.work ≡ Idle → legal_of k ≡ true → Completes ws w kind k
completes ws w kind k c i l =
    let f = alone ws w kind k c i l in
    let e = whole_started ws w kind k f.started ∙ run_steps f.run (most_steps ws) f.within in
    record {
      answer = f.answer;
      says = ap (λ (r : Ran). r.call.says) e;
      ended = run_ended f.run;
      within = subst (λ (r : Ran). r.steps ≤ most_steps ws) (sym e) f.within;
      idle = ap (λ (r : Ran). r.call.worker) e;
      answers = subst (λ (r : Ran). Answers kind ws k f.answer r.call.words) (sym e) f.answers;
      calm = subst (λ (r : Ran). Calm r.call.words) (sym e) f.calm;
    }

-- A REFUSED START leaves the words and the record as they were, and no step is made
pub whole_refused : (ws : List ℕ) (w : Worker) (kind : Kind) (k n : ℕ) → (start_of ws w kind k).says ≡ refuses n
    → whole_of ws w kind k ≡ record { call = refused n w ws; steps = 0 }
unfolding whole_of
whole_refused ws w kind k n e = ap (λ (c : Call (Unit {0})). begun c.words c.worker c.says) (start_refused ws w kind k n e)

-- A WORK THAT HAS NOT ENDED made all its steps, and its record is busy with it still

abbrev Still : Worker → ℕ → Ran → Type 0
Still w n r = r.call.says ≡ gives going → (r.call.worker.work ≡ w.work) × (r.call.worker.key ≡ w.key) × (r.steps ≡ n)

still_one : (n : ℕ) (ws : List ℕ) (w : Worker) → Still (step_of ws w).worker n (steps_of n (step_of ws w).words (step_of ws w).worker)
    → (b : Bool) → goes_on (step_of ws w).says ≡ b → Still w (suc n) (steps_of (suc n) ws w)
still_one n ws w t true e =
    let g = step_going ws w (going_on _ e) in
    subst (Still w (suc n)) (sym (steps_on n ws w e)) (λ h. let s = t h in (s.0 ∙ g.0, s.1 ∙ g.1, ap suc s.2))
still_one n ws w t false e =
    subst (Still w (suc n)) (sym (steps_end n ws w e)) (λ h. absurd (false≢true (sym e ∙ ap goes_on h)))

pub steps_still : (n : ℕ) (ws : List ℕ) (w : Worker) → Still w n (steps_of n ws w)
steps_still zero ws w = subst (Still w 0) (sym (steps_none ws w)) (λ h. (refl, refl, refl))
steps_still (suc n) ws w = still_one n ws w (steps_still n (step_of ws w).words (step_of ws w).worker) (goes_on (step_of ws w).says) refl

started_busy : (ws : List ℕ) (w : Worker) (kind : Kind) (k : ℕ) → (start_of ws w kind k).says ≡ gives tt
    → ((start_of ws w kind k).worker.work ≡ Busy kind) × ((start_of ws w kind k).worker.key ≡ k)
started_busy ws w kind k =
    start_ends (λ c. c.says ≡ gives tt → (c.worker.work ≡ Busy kind) × (c.worker.key ≡ k)) ws w kind k
    (λ t e. absurd (gave (sym e))) (λ t i e. absurd (gave (sym e))) (λ t i l e. absurd (gave (sym e))) (λ t i l b e. absurd (gave (sym e)))
    (λ t i l b e. (refl, refl))

pub whole_going : (ws : List ℕ) (w : Worker) (kind : Kind) (k : ℕ) → (whole_of ws w kind k).call.says ≡ gives going
    → let r = whole_of ws w kind k in (r.call.worker.work ≡ Busy kind) × (r.call.worker.key ≡ k) × (r.steps ≡ most_steps ws)
whole_going ws w kind k = go (start_of ws w kind k).says refl
  where
    Left : Ran → Type 0
    Left r = r.call.says ≡ gives going → (r.call.worker.work ≡ Busy kind) × (r.call.worker.key ≡ k) × (r.steps ≡ most_steps ws)

    go : (s : Said (Unit {0})) → (start_of ws w kind k).says ≡ s → Left (whole_of ws w kind k)
    go (gives a) e =
        let b = started_busy ws w kind k e in
        subst Left (sym (whole_started ws w kind k e)) (λ h. let s = steps_still (most_steps ws) _ _ h in (s.0 ∙ b.0, s.1 ∙ b.1, s.2))
    go (refuses n) e = subst Left (sym (whole_refused ws w kind k n e)) (λ h. absurd (gave (sym h)))
