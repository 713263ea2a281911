-- A step of a phase that has a plan, made in the record's words: that is the step of the record that they are.
-- Assumes nothing.
use mathlib.Core.Path.{◌≡◌, refl, sym, ap, ◌∙◌}
use mathlib.Core.Bool.{Bool, true, false, cond, not, false≢true, and-eq-true_iff}
use mathlib.Core.List.{List}
use Prim.Native.Nat.{ℕ}
use lib.Dec.{eqb}
use Rattle.table.specs.Pair.{slots_of, busy_of}
use Rattle.table.specs.Rules.{table_fine}
use Rattle.protocol.specs.Plan.{done_of, at_root}
use Rattle.protocol.specs.Locks.{all_held, released}
use Rattle.protocol.specs.Step.{reads_fine, leave, idle_worker, step_of}
use Rattle.protocol.specs.declared.Kind.{Kind}
use Rattle.protocol.specs.declared.Work.{Work}
use Rattle.protocol.specs.declared.Work.TheVariants.{Idle, Busy}
use Rattle.protocol.specs.declared.Phase.{Phase}
use Rattle.protocol.specs.declared.Phase.TheVariants.{Walk, OnRouting, New, Two, One, Leaf, UnderData, UnderRouting}
use Rattle.protocol.specs.declared.Worker.{Worker}
use Rattle.protocol.specs.declared.Action.{Action}
use Rattle.protocol.specs.declared.Action.TheVariants.{End}
use Rattle.protocol.specs.declared.Answer.{Answer}
use Rattle.protocol.specs.declared.Answer.TheVariants.{Yes}
use Rattle.plan.specs.Due.{due_of}
use Rattle.locks.specs.Taking.{after, given_up}
use Rattle.locks.specs.declared.Acted.{Acted}
use Rattle.locks.specs.declared.Acted.TheVariants.{Done, Denied, Finished}
use Rattle.acting.specs.Acts.{act_on}
use Rattle.acting.specs.Moves.{Move, leaves, settle, settle_said, settle_act, plan_move, busy_move, work_move, step_move}
use Rattle.acting.specs.declared.Moved.{Moved}
use Rattle.acting.specs.declared.Moved.TheVariants.{On, To, Over}
use Rattle.std.specs.Prelude.{Ok, Err, Option, Some, None, ◌≢◌}
use Rattle.refusal.specs.declared.Refusal.TheVariants.{Damaged}
use Rattle.worker.specs.Moving.{left_by, move_says, move_of}
use Rattle.records.specs.Records.{worker_of, is_record, put_record, count_on}
use Rattle.calls.specs.Numbers.{verdict_number}
use Rattle.calls.specs.Workers.{Comes, put_moved, due_work, due_in, Ruled}
use Rattle.calls.proofs.MovedCalls.{moved_call}

-- a phase in which an action is due moves by its plan
by_plan : (ws : List ℕ) (kind : Kind) (key : ℕ) (p : Phase) → reads_fine ws (due_of (slots_of ws) kind p) ≡ true
    → busy_move ws kind key p ≡ plan_move ws kind key p
unfolding busy_move due_of reads_fine
by_plan ws kind key (Walk at prev before side up) e = absurd (false≢true e)
by_plan ws kind key (OnRouting this done) e = refl
by_plan ws kind key (New prev side done) e = refl
by_plan ws kind key (Two this done) e = refl
by_plan ws kind key (One this prev side child toward done) e = refl
by_plan ws kind key (Leaf this prev side before up) e = absurd (false≢true e)
by_plan ws kind key (UnderData this prev side done) e = refl
by_plan ws kind key (UnderRouting this prev side before up other done) e = refl

work_plan : (ws : List ℕ) (work : Work) (key : ℕ) (p : Phase) → Ruled ws key → reads_fine ws (due_work (slots_of ws) work p) ≡ true
    → step_move ws work key p ≡ settle_act p (act_on ws key (due_work (slots_of ws) work p))
unfolding step_move work_move plan_move reads_fine
work_plan ws Idle key p r e = absurd (false≢true e)
work_plan ws (Busy kind) key p r e =
    let t = (and-eq-true_iff (table_fine ws) (not (eqb (busy_of ws) 0))).0 r.0 in
    rw t.0 (by_plan ws kind key p e ∙ rw (r.1, t.1, e))

plan_moves : (ws : List ℕ) (w : Worker) → Ruled ws w.key → reads_fine ws (due_in (slots_of ws) w) ≡ true
    → move_of ws w ≡ settle_act w.phase (act_on ws w.key (due_in (slots_of ws) w))
unfolding due_in
plan_moves ws w r e = work_plan ws w.work w.key w.phase r e

-- A LOCK OR A STORE THAT IS DONE, counted in the words
pub act_call : (ws s : List ℕ) (a : Action) {s' ws' : List ℕ} → is_record s ≡ true → Ruled ws (worker_of s).key
    → a ≡ due_in (slots_of ws) (worker_of s) → reads_fine ws a ≡ true → act_on ws (worker_of s).key a ≡ after (Ok Done) ws' → s' ≡ count_on s
    → Comes verdict_number ws s (step_of ws (worker_of s)) 0 s' ws'
unfolding put_moved left_by settle_act settle_said settle
act_call ws s a i r e f d p =
    let w = worker_of s in
    let g : move_of ws w ≡ after (Ok On) _ =
    plan_moves ws w r (rw e at f) ∙ ap (settle_act w.phase) (rw e at d) in
    moved_call ws s (Ok On) i (ap (λ (m : Move). m.said) (sym g)) refl p (ap (λ (m : Move). m.words) (sym g))

-- THE END OF A PLAN
end_moves : (ws : List ℕ) (w : Worker) → Ruled ws w.key → due_in (slots_of ws) w ≡ End → move_of ws w ≡ leaves ws w.phase (Over Yes)
unfolding reads_fine settle_act settle_said settle act_on
end_moves ws w r e = plan_moves ws w r (rw e) ∙ rw e

-- what becomes of the locks, by whether all are held
given_up_lem : (ws : List ℕ) (p : Phase) (m : Moved) (b : Bool) → all_held ws p (done_of p) ≡ b
    → (given_up ws p (done_of p) ≡ cond b (released ws p (done_of p)) ws)
    × (leaves ws p m ≡ cond b (after (Ok m) (released ws p (done_of p))) (after (Err Damaged) ws))
unfolding given_up leaves
given_up_lem ws p m b h = (rw h, rw h)

-- A WORK THAT GIVES UP ITS LOCKS, and then is over or begins again: they are held
pub leave_call : (ws s : List ℕ) (m : Moved) {n : ℕ} {s' ws' : List ℕ} → is_record s ≡ true → move_of ws (worker_of s) ≡ leaves ws (worker_of s).phase m
    → all_held ws (worker_of s).phase (done_of (worker_of s).phase) ≡ true → n ≡ verdict_number (move_says (Ok m))
    → s' ≡ put_moved s (worker_of s).work (worker_of s).key (Ok m) → ws' ≡ left_by (Ok m) (given_up ws (worker_of s).phase (done_of (worker_of s).phase))
    → Comes verdict_number ws s (step_of ws (worker_of s)) n s' ws'
leave_call ws s m i e h n p q =
    let u = given_up_lem ws (worker_of s).phase m true h in
    let g = e ∙ u.1 in
    moved_call ws s (Ok m) i (ap (λ (x : Move). x.said) (sym g)) n p
    (q ∙ ap (left_by (Ok m)) u.0 ∙ ap (λ (x : Move). left_by (Ok m) x.words) (sym g))

-- or one is not: refused, and nothing changes
pub leave_refused : (ws s : List ℕ) (m : Moved) {ws' : List ℕ} → is_record s ≡ true → move_of ws (worker_of s) ≡ leaves ws (worker_of s).phase m
    → all_held ws (worker_of s).phase (done_of (worker_of s).phase) ≡ false → ws' ≡ given_up ws (worker_of s).phase (done_of (worker_of s).phase)
    → Comes verdict_number ws s (step_of ws (worker_of s)) 6 s ws'
unfolding put_moved left_by
leave_refused ws s m i e h q =
    let u = given_up_lem ws (worker_of s).phase m false h in
    let g = e ∙ u.1 in
    moved_call ws s (Err Damaged) i (ap (λ (x : Move). x.said) (sym g)) refl refl
    (q ∙ u.0 ∙ ap (λ (x : Move). x.words) (sym g))

-- a lock that is denied, and a frame that finds no slot, leave all words, and the work begins again or is over
pub denied_moves : (ws s : List ℕ) (a : Action) (ws' : List ℕ) → ws' ≡ ws → Ruled ws (worker_of s).key → a ≡ due_in (slots_of ws) (worker_of s)
    → reads_fine ws a ≡ true → act_on ws (worker_of s).key a ≡ after (Ok Denied) ws'
    → move_of ws' (worker_of s) ≡ leaves ws' (worker_of s).phase (To at_root)
unfolding settle_act settle_said settle
denied_moves ws s a ws' k r e f d =
    ap (λ (z : List ℕ). move_of z (worker_of s)) k ∙ plan_moves ws (worker_of s) r (rw e at f) ∙ ap (settle_act (worker_of s).phase) (rw e at d)

pub over_moves : (ws s : List ℕ) (a : Action) (answer : Answer) (ws' : List ℕ) → ws' ≡ ws → Ruled ws (worker_of s).key → a ≡ due_in (slots_of ws) (worker_of s)
    → reads_fine ws a ≡ true → act_on ws (worker_of s).key a ≡ after (Ok (Finished answer)) ws'
    → move_of ws' (worker_of s) ≡ leaves ws' (worker_of s).phase (Over answer)
unfolding settle_act settle_said settle
over_moves ws s a answer ws' k r e f d =
    ap (λ (z : List ℕ). move_of z (worker_of s)) k ∙ plan_moves ws (worker_of s) r (rw e at f) ∙ ap (settle_act (worker_of s).phase) (rw e at d)

-- what is denied, and what is over, is not done
abbrev is_done : Option Acted → Bool
is_done (Some Done) = true
is_done (Some Denied) = false
is_done (Some (Finished x)) = false
is_done None = false

pub denied_other : {r : Option Acted} {a : Acted} → r ≡ Some a → a ≡ Denied → r ≢ Some Done
denied_other e d f = false≢true (ap is_done (sym (ap Some d) ∙ sym e ∙ f))

pub over_other : {r : Option Acted} {a : Acted} {x : Answer} → r ≡ Some a → a ≡ Finished x → r ≢ Some Done
over_other e d f = false≢true (ap is_done (sym (ap Some d) ∙ sym e ∙ f))

-- the last step of a plan
pub end_call : (ws s : List ℕ) {s' ws' : List ℕ} → is_record s ≡ true → Ruled ws (worker_of s).key → due_in (slots_of ws) (worker_of s) ≡ End
    → all_held ws (worker_of s).phase (done_of (worker_of s).phase) ≡ true
    → s' ≡ put_record s idle_worker → ws' ≡ leave (given_up ws (worker_of s).phase (done_of (worker_of s).phase))
    → Comes verdict_number ws s (step_of ws (worker_of s)) 16 s' ws'
unfolding put_moved left_by
end_call ws s i r e h p q = leave_call ws s (Over Yes) i (end_moves ws (worker_of s) r e) h refl p q

pub end_refused : (ws s : List ℕ) {ws' : List ℕ} → is_record s ≡ true → Ruled ws (worker_of s).key → due_in (slots_of ws) (worker_of s) ≡ End
    → all_held ws (worker_of s).phase (done_of (worker_of s).phase) ≡ false → ws' ≡ given_up ws (worker_of s).phase (done_of (worker_of s).phase)
    → Comes verdict_number ws s (step_of ws (worker_of s)) 6 s ws'
end_refused ws s i r e h q = leave_refused ws s (Over Yes) i (end_moves ws (worker_of s) r e) h q
