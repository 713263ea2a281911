-- A WHOLE WORK AS A CALL: a start, and steps until one answers something else than Going. A work that has not ended after the most
-- steps that a worker alone takes (the table is damaged, or others hold locks) answers Going and leaves its record busy: nothing is
-- lost, and the caller goes on with it or withdraws it.
-- Assumes nothing.
use Rattle.std.specs.Prelude.{◌≡◌, Bool, true, false, cond, List, ◌≢◌, ℕ, zero, suc, ◌+◌, ◌≤◌}
use Rattle.refusal.specs.Said.{Said, gives, refuses}
use Rattle.table.specs.Pair.{slots_of}
use Rattle.protocol.specs.Says.{Verdict, going, yes, no, full}
use Rattle.protocol.specs.Step.{Call, refused, step_of, idle_worker}
use Rattle.protocol.specs.Calls.{start_of}
use Rattle.protocol.specs.Alone.{Calm, Answers}
use Rattle.protocol.specs.declared.Kind.{Kind}
use Rattle.protocol.specs.declared.Worker.{Worker}

-- the most steps that a worker alone takes: "the number of slots plus 10"
abbrev pub most_steps : List ℕ → ℕ
most_steps ws = slots_of ws + 10

-- what steps came to: the last call, and how many steps were made
pub record Ran : Type 0 where
  pub call : Call Verdict
  pub steps : ℕ

abbrev pub goes_on : Said Verdict → Bool
goes_on (gives going) = true
goes_on (gives yes) = false
goes_on (gives no) = false
goes_on (gives full) = false
goes_on (refuses n) = false

-- no step is made: the work goes on from here
abbrev pub no_step : List ℕ → Worker → Ran
no_step ws w = record { call = record { says = gives going; worker = w; words = ws }; steps = 0 }

-- the same, with a step made before it
abbrev pub one_more : Ran → Ran
one_more r = record { call = r.call; steps = suc r.steps }

-- at most n steps, until one answers something else than Going
unfoldable pub steps_of : ℕ → List ℕ → Worker → Ran
steps_of zero ws w = no_step ws w
steps_of (suc n) ws w =
    let rest = steps_of n (step_of ws w).words (step_of ws w).worker in
    cond (goes_on (step_of ws w).says) (one_more rest) (record { call = step_of ws w; steps = 1 })

-- a work that is in hand: stepped to its end
unfoldable pub rest_of : List ℕ → Worker → Ran
rest_of ws w = steps_of (most_steps ws) ws w

-- refused as its start is, or stepped from the words and the record that its start leaves
abbrev pub begun : List ℕ → Worker → Said (Unit {0}) → Ran
begun ws w (gives a) = rest_of ws w
begun ws w (refuses n) = record { call = refused n w ws; steps = 0 }

unfoldable pub whole_of : List ℕ → Worker → Kind → ℕ → Ran
whole_of ws w kind key = begun (start_of ws w kind key).words (start_of ws w kind key).worker (start_of ws w kind key).says

-- demand 2 of a whole work: it ends, within the most steps, with the answer of the set; the record is idle, the table calm again
pub record Completes (ws : List ℕ) (w : Worker) (kind : Kind) (k : ℕ) : Type 0 where
  pub answer : Verdict
  pub says : (whole_of ws w kind k).call.says ≡ gives answer
  pub ended : answer ≢ going
  pub within : (whole_of ws w kind k).steps ≤ most_steps ws
  pub idle : (whole_of ws w kind k).call.worker ≡ idle_worker
  pub answers : Answers kind ws k answer (whole_of ws w kind k).call.words
  pub calm : Calm (whole_of ws w kind k).call.words
