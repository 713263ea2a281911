-- A step, as the code takes it apart: what the action comes to by itself, and what then becomes of the phase. A phase that goes
-- on by the plan is not made anew: one more of its actions is done. `proofs/MoveLaws.antt` has that this is the protocol's step.
-- Assumes nothing.
use Rattle.std.specs.Prelude.{cond, not, ◌&&◌, List, ℕ, eqb, Result, Ok, Err}
use Rattle.refusal.specs.declared.Refusal.{Refusal}
use Rattle.refusal.specs.declared.Refusal.TheVariants.{Table, State, Damaged}
use Rattle.moment.specs.Key.{legal_of}
use Rattle.table.specs.Pair.{slots_of, busy_of}
use Rattle.table.specs.Rules.{pair_fine, table_fine}
use Rattle.protocol.specs.Plan.{done_of, next_of, at_root}
use Rattle.protocol.specs.Record.{record_fine}
use Rattle.protocol.specs.Locks.{Did, all_held, released}
use Rattle.protocol.specs.Walk.{visit, look}
use Rattle.protocol.specs.Step.{reads_fine}
use Rattle.protocol.specs.declared.Kind.{Kind}
use Rattle.protocol.specs.declared.Work.{Work}
use Rattle.protocol.specs.declared.Work.TheVariants.{Idle, Busy}
use Rattle.protocol.specs.declared.Phase.{Phase}
use Rattle.protocol.specs.declared.Phase.TheVariants.{Walk, OnRouting, New, Two, One, Leaf, UnderData, UnderRouting}
use Rattle.protocol.specs.declared.Outcome.{Outcome}
use Rattle.protocol.specs.declared.Outcome.TheVariants.{Goes, Ends}
use Rattle.plan.specs.Due.{due_of}
use Rattle.locks.specs.Taking.{After, after}
use Rattle.locks.specs.declared.Acted.{Acted}
use Rattle.locks.specs.declared.Acted.TheVariants.{Done, Denied, Finished}
use Rattle.acting.specs.Acts.{act_on}
use Rattle.acting.specs.declared.Moved.{Moved}
use Rattle.acting.specs.declared.Moved.TheVariants.{On, To, Over}

-- what a step comes to, and the words after it
abbrev pub Move : Type 0
Move = After (Result Moved Refusal)

-- the outcome that is told, in a phase
abbrev pub outcome_of : Phase → Moved → Outcome
outcome_of p On = Goes (next_of p)
outcome_of p (To q) = Goes q
outcome_of p (Over a) = Ends a

abbrev pub said_in : Phase → Result Moved Refusal → Result Outcome Refusal
said_in p (Ok m) = Ok (outcome_of p m)
said_in p (Err e) = Err e

unfoldable pub as_did : Phase → Move → Did
as_did p m = record { said = said_in p m.said; words = m.words }

-- what the walk and the leaf's look come to
abbrev pub moved_of : Outcome → Moved
moved_of (Goes p) = To p
moved_of (Ends a) = Over a

-- what becomes of a work that gives up its locks: one that is finished is over, any other begins again
abbrev pub then_of : Acted → Moved
then_of Done = To at_root
then_of Denied = To at_root
then_of (Finished a) = Over a

unfoldable pub leaves : List ℕ → Phase → Moved → Move
leaves ws p then = cond (all_held ws p (done_of p)) (after (Ok then) (released ws p (done_of p))) (after (Err Damaged) ws)

-- what becomes of the phase after an action: one more is done, or the locks are given up, or nothing
unfoldable pub settle : Phase → Acted → List ℕ → Move
settle p Done ws = after (Ok On) ws
settle p Denied ws = leaves ws p (then_of Denied)
settle p (Finished a) ws = leaves ws p (then_of (Finished a))

unfoldable pub settle_said : Phase → Result Acted Refusal → List ℕ → Move
settle_said p (Ok a) ws = settle p a ws
settle_said p (Err e) ws = after (Err e) ws

unfoldable pub settle_act : Phase → After (Result Acted Refusal) → Move
settle_act p a = settle_said p a.said a.words

-- a phase that neither walks nor looks: rule 6 and the action that is due
unfoldable pub plan_move : List ℕ → Kind → ℕ → Phase → Move
plan_move ws kind key p =
    cond (legal_of key && not (eqb (busy_of ws) 0) && reads_fine ws (due_of (slots_of ws) kind p))
    (settle_act p (act_on ws key (due_of (slots_of ws) kind p)))
    (after (Err Damaged) ws)

-- any phase
unfoldable pub busy_move : List ℕ → Kind → ℕ → Phase → Move
busy_move ws kind key (Walk at prev before side up) =
    cond (record_fine ws kind key (Walk at prev before side up) && pair_fine ws at)
    (after (Ok (moved_of (visit ws kind key at prev before side up))) ws)
    (after (Err Damaged) ws)
busy_move ws kind key (OnRouting this done) = plan_move ws kind key (OnRouting this done)
busy_move ws kind key (New prev side done) = plan_move ws kind key (New prev side done)
busy_move ws kind key (Two this done) = plan_move ws kind key (Two this done)
busy_move ws kind key (One this prev side child toward done) = plan_move ws kind key (One this prev side child toward done)
busy_move ws kind key (Leaf this prev side before up) =
    cond (record_fine ws kind key (Leaf this prev side before up) && pair_fine ws prev)
    (after (Ok (moved_of (look ws this prev side before up))) ws)
    (after (Err Damaged) ws)
busy_move ws kind key (UnderData this prev side done) = plan_move ws kind key (UnderData this prev side done)
busy_move ws kind key (UnderRouting this prev side before up other done) = plan_move ws kind key (UnderRouting this prev side before up other done)

-- rules 2 and 1
unfoldable pub work_move : List ℕ → Work → ℕ → Phase → Move
work_move ws Idle key p = after (Err State) ws
work_move ws (Busy kind) key p = busy_move ws kind key p

unfoldable pub step_move : List ℕ → Work → ℕ → Phase → Move
step_move ws work key p = cond (table_fine ws) (work_move ws work key p) (after (Err Table) ws)
