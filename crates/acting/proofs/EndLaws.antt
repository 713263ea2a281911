-- What is not refused carries no refusal: where an action, a walk, a look or a step ends a work, its answer is Yes, No or Full.
-- Assumes nothing.
use mathlib.Core.Path.{◌≡◌, refl, sym, ap, ◌∙◌}
use mathlib.Core.Bool.{Bool, true, false, not, ◌&&◌, false≢true}
use mathlib.Core.List.{List}
use mathlib.Core.Logic.{◌⊎◌, inl, inr}
use Prim.Native.Nat.{ℕ}
use lib.Dec.{eqb}
use Rattle.std.specs.Prelude.{Result, Ok, Err}
use Rattle.refusal.specs.declared.Refusal.{Refusal}
use Rattle.moment.specs.Key.{legal_of}
use Rattle.moment.proofs.Tests.{by_cases}
use Rattle.table.specs.Pair.{slots_of, busy_of, lock_of, zero_pair}
use Rattle.table.specs.Rules.{pair_fine, table_fine}
use Rattle.table.specs.declared.Which.{Which}
use Rattle.protocol.specs.Plan.{done_of}
use Rattle.protocol.specs.Locks.{crowded, granted, all_held}
use Rattle.protocol.specs.Stores.{lowest_fit}
use Rattle.protocol.specs.Record.{record_fine}
use Rattle.protocol.specs.Walk.{visit, look}
use Rattle.protocol.specs.Step.{reads_fine}
use Rattle.protocol.specs.declared.Kind.{Kind}
use Rattle.protocol.specs.declared.Kind.TheVariants.{Lookup, Insert, Remove}
use Rattle.protocol.specs.declared.Work.{Work}
use Rattle.protocol.specs.declared.Work.TheVariants.{Idle, Busy}
use Rattle.protocol.specs.declared.Phase.{Phase}
use Rattle.protocol.specs.declared.Phase.TheVariants.{Walk, OnRouting, New, Two, One, Leaf, UnderData, UnderRouting}
use Rattle.protocol.specs.declared.Links.{Links}
use Rattle.protocol.specs.declared.Action.{Action}
use Rattle.protocol.specs.declared.Action.TheVariants.{Visit, Look, Lock, Mark, Link, Take, End, Beyond}
use Rattle.protocol.specs.declared.Answer.{Answer}
use Rattle.protocol.specs.declared.Answer.TheVariants.{Going, Yes, No, Full, Refused}
use Rattle.protocol.specs.declared.Outcome.{Outcome}
use Rattle.protocol.specs.declared.Outcome.TheVariants.{Goes, Ends}
use Rattle.protocol.proofs.Ends.{lookup_ends, insert_ends, remove_ends, removing_ends, look_ends}
use Rattle.plan.specs.Due.{due_of}
use Rattle.locks.specs.Taking.{After, take_lock}
use Rattle.locks.specs.declared.Acted.{Acted}
use Rattle.locks.specs.declared.Acted.TheVariants.{Done, Denied, Finished}
use Rattle.acting.specs.Acts.{takes, act_on}
use Rattle.acting.specs.Moves.{Move, moved_of, then_of, leaves, settle, settle_said, settle_act, plan_move, busy_move, work_move, step_move}
use Rattle.acting.specs.declared.Moved.{Moved}
use Rattle.acting.specs.declared.Moved.TheVariants.{On, To, Over}

-- the answers that end a work
abbrev pub EndsWork : Answer → Type 0
EndsWork a = (a ≡ Yes) ⊎ ((a ≡ No) ⊎ (a ≡ Full))

-- the same as a test
abbrev ends_work : Answer → Bool
ends_work Going = false
ends_work Yes = true
ends_work No = true
ends_work Full = true
ends_work (Refused e) = false

ended : (a : Answer) → ends_work a ≡ true → EndsWork a
ended Going f = absurd (false≢true f)
ended Yes f = inl refl
ended No f = inr (inl refl)
ended Full f = inr (inr refl)
ended (Refused e) f = absurd (false≢true f)

-- A value is plain where no refusal is in it: it ends no work, or ends it with one of these answers

abbrev outcome_plain : Outcome → Bool
outcome_plain (Goes p) = true
outcome_plain (Ends a) = ends_work a

abbrev acted_plain : Result Acted Refusal → Bool
acted_plain (Ok Done) = true
acted_plain (Ok Denied) = true
acted_plain (Ok (Finished a)) = ends_work a
acted_plain (Err e) = true

abbrev moved_plain : Result Moved Refusal → Bool
moved_plain (Ok On) = true
moved_plain (Ok (To p)) = true
moved_plain (Ok (Over a)) = ends_work a
moved_plain (Err e) = true

abbrev PlainOutcome : Outcome → Type 0
PlainOutcome o = outcome_plain o ≡ true

abbrev PlainAct : After (Result Acted Refusal) → Type 0
PlainAct r = acted_plain r.said ≡ true

abbrev PlainMove : Move → Type 0
PlainMove m = moved_plain m.said ≡ true

-- THE WALK AND THE LOOK

visit_plain : (ws : List ℕ) (kind : Kind) (key at prev before : ℕ) (side up : Bool) → PlainOutcome (visit ws kind key at prev before side up)
visit_plain ws Lookup key at prev before side up =
    lookup_ends PlainOutcome ws key at prev before side up (λ k s. refl) (λ k s. refl) (λ k c. refl) (λ k c. refl)
visit_plain ws Insert key at prev before side up =
    insert_ends PlainOutcome ws key at prev before side up
    (λ k s. refl) (λ k s. refl) (λ k s d. refl) (λ k c. refl) (λ k c. refl)
visit_plain ws Remove key at prev before side up =
    remove_ends PlainOutcome ws key at prev before side up
    (λ k s. refl)
    (λ k s. removing_ends PlainOutcome _ _ at prev before side up (λ l r. refl) (λ l r. refl) (λ l r. refl) (λ l r. refl))
    (λ k c. refl) (λ k c. refl)

pub visit_answers : (ws : List ℕ) (kind : Kind) (key at prev before : ℕ) (side up : Bool) (a : Answer)
    → visit ws kind key at prev before side up ≡ Ends a → EndsWork a
visit_answers ws kind key at prev before side up a e = ended a (ap outcome_plain (sym e) ∙ visit_plain ws kind key at prev before side up)

look_plain : (ws : List ℕ) (this prev : ℕ) (side : Bool) (before : ℕ) (up : Bool) → PlainOutcome (look ws this prev side before up)
look_plain ws this prev side before up =
    look_ends PlainOutcome ws this prev side before up (λ d. refl) (λ s. refl) (λ d s c. refl) (λ d s c. refl)

pub look_answers : (ws : List ℕ) (this prev : ℕ) (side : Bool) (before : ℕ) (up : Bool) (a : Answer)
    → look ws this prev side before up ≡ Ends a → EndsWork a
look_answers ws this prev side before up a e = ended a (ap outcome_plain (sym e) ∙ look_plain ws this prev side before up)

moved_of_plain : (o : Outcome) → outcome_plain o ≡ true → moved_plain (Ok (moved_of o)) ≡ true
moved_of_plain (Goes p) f = refl
moved_of_plain (Ends a) f = f

-- of a walk as it is reported
pub visited_answers : (ws : List ℕ) (kind : Kind) (key at prev before : ℕ) (side up : Bool) (a : Answer)
    → moved_of (visit ws kind key at prev before side up) ≡ Over a → EndsWork a
visited_answers ws kind key at prev before side up a e =
    ended a (ap (λ (m : Moved). moved_plain (Ok m)) (sym e) ∙ moved_of_plain (visit ws kind key at prev before side up) (visit_plain ws kind key at prev before side up))

-- AN ACTION OF THE PLAN

lock_plain : (ws : List ℕ) (slot : ℕ) (which : Which) (write : Bool) (state : ℕ) (links : Links) → PlainAct (take_lock ws slot which write state links)
unfolding take_lock
lock_plain ws slot which write state links =
    by_cases PlainAct (granted ws slot which write state links)
    (λ g. by_cases PlainAct (crowded write (lock_of ws slot which)) (λ c. refl) (λ c. refl))
    (λ g. refl)

pub take_lock_answers : (ws : List ℕ) (slot : ℕ) (which : Which) (write : Bool) (state : ℕ) (links : Links) (a : Answer)
    → (take_lock ws slot which write state links).said ≡ Ok (Finished a) → EndsWork a
take_lock_answers ws slot which write state links a e = ended a (ap acted_plain (sym e) ∙ lock_plain ws slot which write state links)

takes_plain : (ws : List ℕ) (key prev : ℕ) (side : Bool) (f : ℕ) → PlainAct (takes ws key prev side f)
unfolding takes
takes_plain ws key prev side f =
    by_cases PlainAct (eqb f 0) (λ e. refl)
    (λ e. by_cases PlainAct (zero_pair ws f) (λ z. refl) (λ z. refl))

act_plain : (ws : List ℕ) (key : ℕ) (a : Action) → PlainAct (act_on ws key a)
unfolding act_on
act_plain ws key (Visit at prev before side up) = refl
act_plain ws key (Look this prev side before up) = refl
act_plain ws key (Lock slot which write state links) = lock_plain ws slot which write state links
act_plain ws key (Mark slot to) = refl
act_plain ws key (Link slot side to) = refl
act_plain ws key (Take prev side) = takes_plain ws key prev side (lowest_fit ws)
act_plain ws key End = refl
act_plain ws key Beyond = refl

pub act_answers : (ws : List ℕ) (key : ℕ) (action : Action) (a : Answer) → (act_on ws key action).said ≡ Ok (Finished a) → EndsWork a
act_answers ws key action a e = ended a (ap acted_plain (sym e) ∙ act_plain ws key action)

-- A STEP

leaves_plain : (ws : List ℕ) (p : Phase) (then : Moved) → moved_plain (Ok then) ≡ true → PlainMove (leaves ws p then)
unfolding leaves
leaves_plain ws p then f = by_cases PlainMove (all_held ws p (done_of p)) (λ h. f) (λ h. refl)

settle_plain : (p : Phase) (r : Result Acted Refusal) (ws : List ℕ) → acted_plain r ≡ true → PlainMove (settle_said p r ws)
unfolding settle_said settle
settle_plain p (Ok Done) ws f = refl
settle_plain p (Ok Denied) ws f = leaves_plain ws p (then_of Denied) refl
settle_plain p (Ok (Finished a)) ws f = leaves_plain ws p (then_of (Finished a)) f
settle_plain p (Err e) ws f = refl

plan_plain : (ws : List ℕ) (kind : Kind) (key : ℕ) (p : Phase) → PlainMove (plan_move ws kind key p)
unfolding plan_move settle_act
plan_plain ws kind key p =
    let a = act_on ws key (due_of (slots_of ws) kind p) in
    by_cases PlainMove (legal_of key && not (eqb (busy_of ws) 0) && reads_fine ws (due_of (slots_of ws) kind p))
    (λ f. settle_plain p a.said a.words (act_plain ws key (due_of (slots_of ws) kind p))) (λ f. refl)

busy_plain : (ws : List ℕ) (kind : Kind) (key : ℕ) (p : Phase) → PlainMove (busy_move ws kind key p)
unfolding busy_move
busy_plain ws kind key (Walk at prev before side up) =
    by_cases PlainMove (record_fine ws kind key (Walk at prev before side up) && pair_fine ws at)
    (λ f. moved_of_plain (visit ws kind key at prev before side up) (visit_plain ws kind key at prev before side up)) (λ f. refl)
busy_plain ws kind key (OnRouting this done) = plan_plain ws kind key (OnRouting this done)
busy_plain ws kind key (New prev side done) = plan_plain ws kind key (New prev side done)
busy_plain ws kind key (Two this done) = plan_plain ws kind key (Two this done)
busy_plain ws kind key (One this prev side child toward done) = plan_plain ws kind key (One this prev side child toward done)
busy_plain ws kind key (Leaf this prev side before up) =
    by_cases PlainMove (record_fine ws kind key (Leaf this prev side before up) && pair_fine ws prev)
    (λ f. moved_of_plain (look ws this prev side before up) (look_plain ws this prev side before up)) (λ f. refl)
busy_plain ws kind key (UnderData this prev side done) = plan_plain ws kind key (UnderData this prev side done)
busy_plain ws kind key (UnderRouting this prev side before up other done) = plan_plain ws kind key (UnderRouting this prev side before up other done)

work_plain : (ws : List ℕ) (work : Work) (key : ℕ) (p : Phase) → PlainMove (work_move ws work key p)
unfolding work_move
work_plain ws Idle key p = refl
work_plain ws (Busy kind) key p = busy_plain ws kind key p

-- A STEP THAT IS NOT REFUSED CARRIES NO REFUSAL
pub step_answers : (ws : List ℕ) (work : Work) (key : ℕ) (p : Phase) (a : Answer) → (step_move ws work key p).said ≡ Ok (Over a) → EndsWork a
unfolding step_move
step_answers ws work key p a e =
    ended a (ap moved_plain (sym e)
    ∙ by_cases PlainMove (table_fine ws) (λ t. work_plain ws work key p) (λ t. refl))
