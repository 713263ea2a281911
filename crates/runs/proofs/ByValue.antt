-- A whole work: the loop of `by_value::steps`, and what follows a start.
-- Assumes nothing.
use mathlib.Core.Path.{◌≡◌, sym, ap, ◌∙◌, subst}
use mathlib.Core.Bool.{true, false}
use mathlib.Core.List.{List}
use native.Mathlib.Omega.{arith}
use Prim.Native.Nat.{ℕ, ◌+◌, ◌≤◌, ◌<◌}
use Rattle.refusal.specs.Said.{refuses, number, said}
use Rattle.std.specs.Prelude.{Result, Ok, Err}
use Rattle.refusal.specs.declared.Refusal.{Refusal}
use Rattle.protocol.specs.Says.{answer_says}
use Rattle.protocol.specs.Step.{refused, step_of}
use Rattle.protocol.specs.Calls.{start_of}
use Rattle.runs.specs.Whole.{most_steps, Ran, goes_on, steps_of, rest_of, begun, whole_of}
use Rattle.protocol.specs.declared.Kind.{Kind}
use Rattle.protocol.specs.declared.Answer.{Answer}
use Rattle.protocol.specs.declared.Answer.TheVariants.{Going, Refused}
use Rattle.protocol.specs.declared.Worker.{Worker}
use Rattle.runs.proofs.Whole.{Made, made_one, made_last, made_all}
use Rattle.runs.specs.Running.{Comes}

-- what `step` promises
abbrev Stepped : List ℕ → Worker → Answer → Worker → List ℕ → Type 0
Stepped vs u a u' vs' = (answer_says a ≡ (step_of vs u).says) × (u' ≡ (step_of vs u).worker) × (vs' ≡ (step_of vs u).words)

module _ {most : ℕ} {ws : List ℕ} {w : Worker} {made : ℕ} {vs : List ℕ} {u : Worker} (m : Made most ws w made vs u) where
  pub one_more : (a : Answer) {u' : Worker} {vs' : List ℕ} → made < most → Stepped vs u a u' vs' → goes_on (answer_says a) ≡ true
      → Made most ws w (made + 1) vs' u'
  one_more a {u'} {vs'} l p g =
      let n = made_one m l (ap goes_on (sym p.0) ∙ g) in
      subst (λ (x : List ℕ). Made most ws w (made + 1) x u') (sym p.2)
      (subst (λ (x : Worker). Made most ws w (made + 1) (step_of vs u).words x) (sym p.1) n)

  pub the_last : (a : Answer) {u' : Worker} {vs' : List ℕ} → made < most → Stepped vs u a u' vs' → goes_on (answer_says a) ≡ false
      → Comes (steps_of most ws w) a u' (made + 1) vs'
  the_last a l p g =
      let e = sym (made_last m l (ap goes_on (sym p.0) ∙ g)) in
      (p.0 ∙ ap (λ (r : Ran). r.call.says) e, p.1 ∙ ap (λ (r : Ran). r.call.worker) e, ap (λ (r : Ran). r.steps) e, p.2 ∙ ap (λ (r : Ran). r.call.words) e)

  pub no_more : most ≤ made → Comes (steps_of most ws w) Going u most vs
  no_more l =
      let k : most ≡ made = omega (arith, l, m.within) in
      let e = sym (made_all m l) in
      (ap (λ (r : Ran). r.call.says) e, ap (λ (r : Ran). r.call.worker) e, k ∙ ap (λ (r : Ran). r.steps) e, ap (λ (r : Ran). r.call.words) e)

-- WHAT FOLLOWS A START

-- what `start` promises
abbrev Started : List ℕ → Worker → Kind → ℕ → Result (Unit {0}) Refusal → Worker → List ℕ → Type 0
Started ws w kind key a u vs =
    (said a ≡ (start_of ws w kind key).says) × (u ≡ (start_of ws w kind key).worker) × (vs ≡ (start_of ws w kind key).words)

module _ (ws : List ℕ) (w : Worker) (kind : Kind) (key : ℕ) (a : Result (Unit {0}) Refusal) {u : Worker} {vs : List ℕ} (p : Started ws w kind key a u vs) where
  pub begun_done : (x : Unit {0}) → a ≡ Ok x → (n : ℕ) → n ≡ most_steps vs → (b : Answer) {u' : Worker} {m : ℕ} {vs' : List ℕ} → Comes (steps_of n vs u) b u' m vs'
      → Comes (whole_of ws w kind key) b u' m vs'
  unfolding whole_of rest_of
  begun_done x d n q b {u'} {m} {vs'} t =
      let e = ap (λ (k : ℕ). steps_of k vs u) q ∙ ap (λ (x : List ℕ). rest_of x u) p.2 ∙ ap (rest_of (start_of ws w kind key).words) p.1
      ∙ ap (begun (start_of ws w kind key).words (start_of ws w kind key).worker) (sym (ap said d) ∙ p.0) in
      subst (λ (r : Ran). Comes r b u' m vs') e t

  pub begun_refused : (e : Refusal) → a ≡ Err e → Comes (whole_of ws w kind key) (Refused e) u 0 vs
  unfolding whole_of
  begun_refused f d =
      let n = number f in
      let r : Ran = record { call = refused n u vs; steps = 0 } in
      let e : r ≡ whole_of ws w kind key = ap (λ (x : List ℕ). begun x u (refuses n)) p.2 ∙ ap (λ (x : Worker). begun (start_of ws w kind key).words x (refuses n)) p.1
      ∙ ap (begun (start_of ws w kind key).words (start_of ws w kind key).worker) (sym (ap said d) ∙ p.0) in
      (ap (λ (x : Ran). x.call.says) e, ap (λ (x : Ran). x.call.worker) e, ap (λ (x : Ran). x.steps) e, ap (λ (x : Ran). x.call.words) e)
