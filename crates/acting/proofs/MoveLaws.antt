-- The code's way through a step is the protocol's: what `step_move` tells is what `step_did` says.
-- Assumes nothing.
use mathlib.Core.Path.{◌≡◌, refl, ap}
use mathlib.Core.Bool.{Bool, true, false, cond, not, ◌&&◌, false≢true}
use mathlib.Core.List.{List}
use Prim.Native.Nat.{ℕ, ◌+◌, ◌<◌}
use lib.Dec.{eqb}
use Rattle.moment.specs.Key.{legal_of}
use Rattle.table.specs.Pair.{slots_of, busy_of, lock_of, set_lock, set_link, zero_pair}
use Rattle.table.specs.Rules.{pair_fine, table_fine}
use Rattle.protocol.specs.Plan.{plan, action_at, done_of, next_of, action_of, at_root}
use Rattle.protocol.specs.Locks.{Did, did, stopped, weight, crowded, granted, all_held, released, give_up, lock_step}
use Rattle.protocol.specs.Stores.{lowest_fit, taken, take_step}
use Rattle.protocol.specs.Record.{roles, record_fine}
use Rattle.protocol.specs.Walk.{visit, look}
use Rattle.protocol.specs.Step.{reads_fine, act_step, busy_step, work_step, step_did}
use Rattle.protocol.specs.declared.Kind.{Kind}
use Rattle.protocol.specs.declared.Work.{Work}
use Rattle.protocol.specs.declared.Work.TheVariants.{Idle, Busy}
use Rattle.protocol.specs.declared.Phase.{Phase}
use Rattle.protocol.specs.declared.Phase.TheVariants.{Walk, OnRouting, New, Two, One, Leaf, UnderData, UnderRouting}
use Rattle.protocol.specs.declared.Action.{Action}
use Rattle.protocol.specs.declared.Action.TheVariants.{Visit, Look, Lock, Mark, Link, Take, End, Beyond}
use Rattle.protocol.specs.declared.Answer.TheVariants.{Yes, Full}
use Rattle.protocol.specs.declared.Outcome.{Outcome}
use Rattle.protocol.specs.declared.Outcome.TheVariants.{Goes, Ends}
use Rattle.std.specs.Prelude.{Result, Ok, Err}
use Rattle.refusal.specs.declared.Refusal.{Refusal}
use Rattle.refusal.specs.declared.Refusal.TheVariants.{Table, Damaged, Readers}
use Rattle.protocol.proofs.PlanLaws.{record_done}
use Rattle.plan.specs.Due.{due_at, due_of}
use Rattle.locks.specs.Taking.{after, take_lock}
use Rattle.locks.specs.declared.Acted.TheVariants.{Done, Denied, Finished}
use Rattle.acting.specs.Acts.{takes, act_on}
use Rattle.acting.specs.Moves.{outcome_of, as_did, moved_of, leaves, settle, settle_said, settle_act, plan_move, busy_move, work_move, step_move}
use Rattle.acting.specs.declared.Moved.{Moved}
use Rattle.acting.specs.declared.Moved.TheVariants.{To, Over}
use Rattle.acting.proofs.ActLaws.{Acts, Planned, acts_at}

-- giving up is the protocol's
leaves_did : (ws : List ℕ) (p : Phase) (m : Moved) → as_did p (leaves ws p m) ≡ give_up ws p (done_of p) (outcome_of p m)
unfolding as_did leaves give_up
leaves_did ws p m = go (all_held ws p (done_of p)) (released ws p (done_of p))
  where
    go : (h : Bool) (vs : List ℕ) → as_did p (cond h (after (Ok m) vs) (after (Err Damaged) ws)) ≡ cond h (did (outcome_of p m) vs) (stopped Damaged ws)
    go true vs = refl
    go false vs = refl

-- An action, settled, is the protocol's

lock_settled : (ws vs : List ℕ) (p : Phase) (g c : Bool)
    → as_did p (settle_act p (cond g (cond c (after (Err Readers) ws) (after (Ok Done) vs)) (after (Ok Denied) ws)))
    ≡ cond g (cond c (stopped Readers ws) (did (Goes (next_of p)) vs)) (give_up ws p (done_of p) (Goes at_root))
unfolding as_did settle_act settle_said settle
lock_settled ws vs p true true = refl
lock_settled ws vs p true false = refl
lock_settled ws vs p false c = leaves_did ws p (To at_root)

take_settled : (ws vs : List ℕ) (p : Phase) (e z : Bool)
    → as_did p (settle_act p (cond e (after (Ok (Finished Full)) ws) (cond z (after (Ok Done) vs) (after (Err Damaged) ws))))
    ≡ cond e (give_up ws p (done_of p) (Ends Full)) (cond z (did (Goes (next_of p)) vs) (stopped Damaged ws))
unfolding as_did settle_act settle_said settle
take_settled ws vs p true z = leaves_did ws p (Over Full)
take_settled ws vs p false true = refl
take_settled ws vs p false false = refl

act_settled : (ws : List ℕ) (kind : Kind) (key : ℕ) (p : Phase) (a : Action) → Acts a
    → as_did p (settle_act p (act_on ws key a)) ≡ act_step ws kind key p (done_of p) (next_of p) a
unfolding as_did settle_act settle_said settle act_on take_lock takes act_step lock_step take_step
act_settled ws kind key p (Visit at prev before side up) t = absurd t
act_settled ws kind key p (Look this prev side before up) t = absurd t
act_settled ws kind key p (Lock slot which write state links) t =
    lock_settled ws (set_lock ws slot which (lock_of ws slot which + weight write)) p (granted ws slot which write state links) (crowded write (lock_of ws slot which))
act_settled ws kind key p (Mark slot to) t = refl
act_settled ws kind key p (Link slot side to) t = refl
act_settled ws kind key p (Take prev side) t =
    let f = lowest_fit ws in take_settled ws (set_link (taken ws f key) prev side f) p (eqb f 0) (zero_pair ws f)
act_settled ws kind key p End t = leaves_did ws p (Over Yes)
act_settled ws kind key p Beyond t = refl

-- What is due

due_planned : (n : ℕ) (kind : Kind) (p : Phase) → Planned p → due_of n kind p ≡ cond (roles n kind p) (action_of p) Beyond
unfolding due_of due_at
due_planned n kind (Walk at prev before side up) t = absurd t
due_planned n kind (OnRouting this done) t = refl
due_planned n kind (New prev side done) t = refl
due_planned n kind (Two this done) t = refl
due_planned n kind (One this prev side child toward done) t = refl
due_planned n kind (Leaf this prev side before up) t = absurd t
due_planned n kind (UnderData this prev side done) t = refl
due_planned n kind (UnderRouting this prev side before up other done) t = refl

-- nobody counted busy: refused either way
none_busy : (f r : Bool) (d e : Did) → d ≡ cond ((f && false) && r) e d
none_busy true r d e = refl
none_busy false r d e = refl

plan_moves : (ws : List ℕ) (kind : Kind) (key : ℕ) (p : Phase) → Planned p → as_did p (plan_move ws kind key p) ≡ busy_step ws kind key p
unfolding plan_move busy_step record_fine reads_fine as_did
plan_moves ws kind key p t = go (legal_of key) (roles (slots_of ws) kind p) (not (eqb (busy_of ws) 0)) (due_of (slots_of ws) kind p) (due_planned (slots_of ws) kind p t)
  where
    go : (l f b : Bool) (a : Action) → a ≡ cond f (action_of p) Beyond
        → as_did p (cond (l && b && reads_fine ws a) (settle_act p (act_on ws key a)) (after (Err Damaged) ws))
        ≡ cond ((l && f && b) && reads_fine ws (action_of p)) (act_step ws kind key p (done_of p) (next_of p) (action_of p)) (stopped Damaged ws)
    go false f b a e = refl
    go true f false a e = none_busy f (reads_fine ws (action_of p)) (stopped Damaged ws) (act_step ws kind key p (done_of p) (next_of p) (action_of p))
    go true false true a e = rw e
    go true true true a e = rw e (read (reads_fine ws (action_of p)))
      where
        read : (r : Bool) → as_did p (cond r (settle_act p (act_on ws key (action_of p))) (after (Err Damaged) ws))
            ≡ cond r (act_step ws kind key p (done_of p) (next_of p) (action_of p)) (stopped Damaged ws)
        read true = act_settled ws kind key p (action_of p) (acts_at p (done_of p) t)
        read false = refl

-- The walk and the look

outcome_back : (p : Phase) (o : Outcome) → outcome_of p (moved_of o) ≡ o
outcome_back p (Goes q) = refl
outcome_back p (Ends a) = refl

looked : (p : Phase) (b : Bool) (o : Outcome) (ws : List ℕ)
    → as_did p (cond b (after (Ok (moved_of o)) ws) (after (Err Damaged) ws)) ≡ cond b (did o ws) (stopped Damaged ws)
unfolding as_did
looked p true o ws = ap (λ (q : Outcome). did q ws) (outcome_back p o)
looked p false o ws = refl

walk_moves : (ws : List ℕ) (kind : Kind) (key at prev before : ℕ) (side up : Bool)
    → as_did (Walk at prev before side up) (busy_move ws kind key (Walk at prev before side up)) ≡ busy_step ws kind key (Walk at prev before side up)
unfolding busy_move busy_step action_at plan reads_fine act_step
walk_moves ws kind key at prev before side up =
    looked (Walk at prev before side up) (record_fine ws kind key (Walk at prev before side up) && pair_fine ws at) (visit ws kind key at prev before side up) ws

look_moves : (ws : List ℕ) (kind : Kind) (key this prev : ℕ) (side : Bool) (before : ℕ) (up : Bool)
    → as_did (Leaf this prev side before up) (busy_move ws kind key (Leaf this prev side before up)) ≡ busy_step ws kind key (Leaf this prev side before up)
unfolding busy_move busy_step action_at plan reads_fine act_step
look_moves ws kind key this prev side before up =
    looked (Leaf this prev side before up) (record_fine ws kind key (Leaf this prev side before up) && pair_fine ws prev) (look ws this prev side before up) ws

-- Any phase, and rules 2 and 1

busy_moves : (ws : List ℕ) (kind : Kind) (key : ℕ) (p : Phase) → as_did p (busy_move ws kind key p) ≡ busy_step ws kind key p
unfolding busy_move
busy_moves ws kind key (Walk at prev before side up) = walk_moves ws kind key at prev before side up
busy_moves ws kind key (OnRouting this done) = plan_moves ws kind key (OnRouting this done) tt
busy_moves ws kind key (New prev side done) = plan_moves ws kind key (New prev side done) tt
busy_moves ws kind key (Two this done) = plan_moves ws kind key (Two this done) tt
busy_moves ws kind key (One this prev side child toward done) = plan_moves ws kind key (One this prev side child toward done) tt
busy_moves ws kind key (Leaf this prev side before up) = look_moves ws kind key this prev side before up
busy_moves ws kind key (UnderData this prev side done) = plan_moves ws kind key (UnderData this prev side done) tt
busy_moves ws kind key (UnderRouting this prev side before up other done) = plan_moves ws kind key (UnderRouting this prev side before up other done) tt

work_moves : (ws : List ℕ) (work : Work) (key : ℕ) (p : Phase) → as_did p (work_move ws work key p) ≡ work_step ws work key p
unfolding as_did work_move work_step
work_moves ws Idle key p = refl
work_moves ws (Busy kind) key p = busy_moves ws kind key p

-- WHAT THE CODE TELLS OF A STEP IS THE STEP
pub step_moves : (ws : List ℕ) (work : Work) (key : ℕ) (p : Phase) → as_did p (step_move ws work key p) ≡ step_did ws work key p
unfolding as_did step_move step_did
step_moves ws work key p = go (table_fine ws)
  where
    go : (t : Bool) → as_did p (cond t (work_move ws work key p) (after (Err Table) ws)) ≡ cond t (work_step ws work key p) (stopped Table ws)
    go true = work_moves ws work key p
    go false = refl

-- A step that goes on found fewer than nine actions done

abbrev goes : Result Outcome Refusal → Bool
goes (Ok (Goes p)) = true
goes (Ok (Ends a)) = false
goes (Err e) = false

busy_done : (ws : List ℕ) (kind : Kind) (key : ℕ) (p : Phase) → goes (busy_step ws kind key p).said ≡ true → done_of p < 9
unfolding busy_step
busy_done ws kind key p e = go (record_fine ws kind key p) refl e
  where
    go : (f : Bool) → record_fine ws kind key p ≡ f
        → goes (cond (f && reads_fine ws (action_of p)) (act_step ws kind key p (done_of p) (next_of p) (action_of p)) (stopped Damaged ws)).said ≡ true → done_of p < 9
    go true q h = record_done ws kind key p q
    go false q h = absurd (false≢true h)

pub goes_done : (ws : List ℕ) (work : Work) (key : ℕ) (p q : Phase) → (step_did ws work key p).said ≡ Ok (Goes q) → done_of p < 9
unfolding step_did work_step
goes_done ws work key p q e = go (table_fine ws) work (ap goes e)
  where
    go : (t : Bool) (w : Work) → goes (cond t (work_step ws w key p) (stopped Table ws)).said ≡ true → done_of p < 9
    go true Idle h = absurd (false≢true h)
    go true (Busy kind) h = busy_done ws kind key p h
    go false w h = absurd (false≢true h)
