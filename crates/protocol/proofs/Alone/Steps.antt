-- One step of a lone worker that does its plan: each lock is given, each store is made, the end gives up everything.
-- Assumes nothing.
use mathlib.Core.Path.{◌≡◌}
use mathlib.Core.Bool.{true}
use mathlib.Core.List.{List}
use mathlib.Core.Logic.{◌≢◌}
use Prim.Native.Nat.{ℕ, suc, ◌≤◌}
use native.Mathlib.Omega.{arith}
use borrow.Author.Tests.{ne_eqb}
use Rattle.refusal.specs.Said.{gives}
use Rattle.moment.specs.Key.{legal_of}
use Rattle.table.specs.Pair.{slots_of, busy_of}
use Rattle.table.specs.Rules.{table_fine}
use Rattle.protocol.specs.Says.{Verdict, going}
use Rattle.protocol.specs.Plan.{done_of, next_of, action_of}
use Rattle.protocol.specs.Record.{roles, record_fine}
use Rattle.protocol.specs.Step.{Call, reads_fine, act_step, busy_step, work_step, step_did, idle_worker, step_of}
use Rattle.protocol.specs.Alone.{Runs, last, more}
use Rattle.protocol.specs.declared.Kind.{Kind}
use Rattle.protocol.specs.declared.Work.TheVariants.{Busy}
use Rattle.protocol.specs.declared.Phase.{Phase}
use Rattle.protocol.specs.declared.Worker.{Worker}
use Rattle.protocol.specs.declared.Action.{Action}
use Rattle.protocol.proofs.StepLaws.{settle}

abbrev pub busy : Kind → ℕ → Phase → Worker
busy kind key p = record { work = Busy kind; key = key; phase = p }

-- a step that goes on, and one that ends the work
abbrev pub went : Kind → ℕ → Phase → List ℕ → Call Verdict
went kind key p us = record { says = gives going; worker = busy kind key p; words = us }

abbrev pub over : Verdict → List ℕ → Call Verdict
over v us = record { says = gives v; worker = idle_worker; words = us }

-- WITHIN b STEPS THE WORK ENDS, and Q holds of its answer and of the words after it
pub record Comes (Q : Verdict → List ℕ → Type 0) (us : List ℕ) (w : Worker) (b : ℕ) : Type 0 where
  pub steps : ℕ
  pub within : steps ≤ b
  pub answer : Verdict
  pub after : List ℕ
  pub run : Runs answer after idle_worker us w steps
  pub told : Q answer after

pub go_on : {Q : Verdict → List ℕ → Type 0} {us vs : List ℕ} {w x : Worker} {b : ℕ} → step_of us w ≡ record { says = gives going; worker = x; words = vs }
    → Comes Q vs x b → Comes Q us w (suc b)
go_on e c = let h = c.within in record { steps = suc c.steps; within = omega arith; answer = c.answer; after = c.after; run = more e c.run; told = c.told }

pub stop : {Q : Verdict → List ℕ → Type 0} {us vs : List ℕ} {w : Worker} {v : Verdict} (b : ℕ) → step_of us w ≡ over v vs → v ≢ going → Q v vs → Comes Q us w (suc b)
stop {vs = vs} {v = v} b e n q = record { steps = 1; within = omega arith; answer = v; after = vs; run = last n e; told = q }

-- A FINE RECORD ON A FINE TABLE DOES ITS ACTION
pub step_acts : (ws : List ℕ) (kind : Kind) (key : ℕ) (p : Phase) (a : Action) → table_fine ws ≡ true → record_fine ws kind key p ≡ true
    → action_of p ≡ a → reads_fine ws a ≡ true
    → step_of ws (busy kind key p) ≡ settle (busy kind key p) (act_step ws kind key p (done_of p) (next_of p) a)
unfolding step_of step_did work_step busy_step
step_acts ws kind key p a t f e r = rw (t, f, e, r)

pub record_fine_lem : (ws : List ℕ) (kind : Kind) (key : ℕ) (p : Phase) → legal_of key ≡ true → roles (slots_of ws) kind p ≡ true → busy_of ws ≢ 0
    → record_fine ws kind key p ≡ true
unfolding record_fine
record_fine_lem ws kind key p l r b = rw (l, r, ne_eqb (busy_of ws) 0 b)
