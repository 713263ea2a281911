-- A step: rules 1, 2 and 6, then the next action of the plan; seat, record and answer are settled in one place.
-- Assumes nothing.
use Rattle.std.specs.Prelude.{Bool, true, false, cond, ◌&&◌, List, ℕ, ◌-◌, Result, Ok, Err}
use Rattle.refusal.specs.Said.{Said, gives, refuses, number}
use Rattle.table.specs.Pair.{busy_of, set_state, set_link, set_busy}
use Rattle.table.specs.Rules.{pair_fine, table_fine}
use Rattle.protocol.specs.Says.{Verdict, going, answer_says}
use Rattle.protocol.specs.Plan.{done_of, next_of, action_of, at_root}
use Rattle.protocol.specs.Record.{record_fine}
use Rattle.protocol.specs.Locks.{Did, did, stopped, give_up, lock_step}
use Rattle.protocol.specs.Stores.{take_step}
use Rattle.protocol.specs.Walk.{visit, look}
use Rattle.protocol.specs.declared.Kind.{Kind}
use Rattle.protocol.specs.declared.Work.{Work}
use Rattle.protocol.specs.declared.Work.TheVariants.{Idle, Busy}
use Rattle.protocol.specs.declared.Phase.{Phase}
use Rattle.protocol.specs.declared.Worker.{Worker}
use Rattle.protocol.specs.declared.Action.{Action}
use Rattle.protocol.specs.declared.Action.TheVariants.{Visit, Look, Lock, Mark, Link, Take, End, Beyond}
use Rattle.protocol.specs.declared.Answer.TheVariants.{Yes}
use Rattle.protocol.specs.declared.Outcome.{Outcome}
use Rattle.protocol.specs.declared.Outcome.TheVariants.{Goes, Ends}
use Rattle.refusal.specs.declared.Refusal.{Refusal}
use Rattle.refusal.specs.declared.Refusal.TheVariants.{Table, State, Damaged}

-- what a call comes to: what it says, and the record and the words after it
pub record Call (A : Type 0) : Type 0 where
  pub says : Said A
  pub worker : Worker
  pub words : List ℕ

-- a refusal leaves record and words as they were
abbrev pub refused : {A : Type 0} → ℕ → Worker → List ℕ → Call A
refused n w ws = record { says = refuses n; worker = w; words = ws }

-- The pair that an action reads or stores to, judged for 6. (A step that gives up locks judges their pairs too: `give_up`.
-- The slot that is taken is judged by `take_step`.)
unfoldable pub reads_fine : List ℕ → Action → Bool
reads_fine ws (Visit at prev before side up) = pair_fine ws at
reads_fine ws (Look this prev side before up) = pair_fine ws prev
reads_fine ws (Lock slot which write state links) = pair_fine ws slot
reads_fine ws (Mark slot to) = pair_fine ws slot
reads_fine ws (Link slot side to) = pair_fine ws slot
reads_fine ws (Take prev side) = pair_fine ws prev
reads_fine ws End = true
reads_fine ws Beyond = false

-- what the action does, where n actions are done and the phase after it is next
unfoldable pub act_step : List ℕ → Kind → ℕ → Phase → ℕ → Phase → Action → Did
act_step ws kind key p n next (Visit at prev before side up) = did (visit ws kind key at prev before side up) ws
act_step ws kind key p n next (Look this prev side before up) = did (look ws this prev side before up) ws
act_step ws kind key p n next (Lock slot which write state links) = lock_step ws p n next slot which write state links
act_step ws kind key p n next (Mark slot to) = did (Goes next) (set_state ws slot to)
act_step ws kind key p n next (Link slot side to) = did (Goes next) (set_link ws slot side to)
act_step ws kind key p n next (Take prev side) = take_step ws key p n next prev side
act_step ws kind key p n next End = give_up ws p n (Ends Yes)
act_step ws kind key p n next Beyond = stopped Damaged ws

-- rule 6, then the next action
unfoldable pub busy_step : List ℕ → Kind → ℕ → Phase → Did
busy_step ws kind key p =
    cond (record_fine ws kind key p && reads_fine ws (action_of p))
    (act_step ws kind key p (done_of p) (next_of p) (action_of p))
    (stopped Damaged ws)

-- rule 2
unfoldable pub work_step : List ℕ → Work → ℕ → Phase → Did
work_step ws Idle key p = stopped State ws
work_step ws (Busy kind) key p = busy_step ws kind key p

-- rule 1
unfoldable pub step_did : List ℕ → Work → ℕ → Phase → Did
step_did ws work key p = cond (table_fine ws) (work_step ws work key p) (stopped Table ws)

-- the idle record, and the seat given up
abbrev pub idle_worker : Worker
idle_worker = record { work = Idle; key = 0; phase = at_root }

unfoldable pub leave : List ℕ → List ℕ
leave ws = set_busy ws (busy_of ws - 1)

-- Yes, No and Full end the work: the seat is given up, the record is idle
unfoldable pub settled : Worker → Result Outcome Refusal → List ℕ → Call Verdict
settled w (Ok (Goes p)) ws = record { says = gives going; worker = record { work = w.work; key = w.key; phase = p }; words = ws }
settled w (Ok (Ends a)) ws = record { says = answer_says a; worker = idle_worker; words = leave ws }
settled w (Err e) ws = refused (number e) w ws

unfoldable pub step_of : List ℕ → Worker → Call Verdict
step_of ws w =
    settled w (step_did ws w.work w.key w.phase).said (step_did ws w.work w.key w.phase).words
