-- What a step changes and what it leaves, for each kind of action: a walk nothing, a lock one lock field of one slot, a
-- store one state, one link, or a new slot and one link; giving up exactly the locks held; an ending one seat besides.
-- Assumes nothing.
use mathlib.Core.Path.{◌≡◌, refl, ap, ◌∙◌}
use mathlib.Core.Bool.{Bool, true}
use mathlib.Core.List.{List}
use mathlib.Core.Logic.{◌⊎◌, inl, inr}
use Prim.Native.Nat.{ℕ, ◌+◌, ◌-◌}
use lib.ListN.{length}
use Rattle.table.specs.Pair.{state_f, link_f, lock_f, busy_f, slots_of, busy_of, lock_of}
use Rattle.table.specs.Rules.{table_fine}
use Rattle.table.specs.declared.Which.{Which}
use Rattle.table.proofs.PairLaws.{field_length}
use Rattle.table.proofs.ChangeLaws.{Only}
use Rattle.protocol.specs.Says.{Verdict}
use Rattle.protocol.specs.Plan.{done_of, action_of}
use Rattle.protocol.specs.Record.{record_fine}
use Rattle.protocol.specs.Locks.{Did, weight, released}
use Rattle.protocol.specs.Stores.{lowest_fit}
use Rattle.protocol.specs.Step.{Call, reads_fine, act_step, settled, leave, step_of}
use Rattle.protocol.specs.Calls.{seated, start_of, withdraw_of}
use Rattle.protocol.specs.declared.Kind.{Kind}
use Rattle.protocol.specs.declared.Phase.{Phase}
use Rattle.protocol.specs.declared.Worker.{Worker}
use Rattle.protocol.specs.declared.Action.{Action}
use Rattle.protocol.specs.declared.Action.TheVariants.{Visit, Look, Lock, Mark, Link, Take, End, Beyond}
use Rattle.protocol.specs.declared.Answer.TheVariants.{Yes}
use Rattle.protocol.specs.declared.Outcome.{Outcome}
use Rattle.protocol.specs.declared.Outcome.TheVariants.{Goes, Ends}
use Rattle.std.specs.Prelude.{Result, Ok, Err}
use Rattle.refusal.specs.declared.Refusal.{Refusal}
use Rattle.protocol.proofs.PlanLaws.{record_roles}
use Rattle.protocol.proofs.Ends.{give_up_ends, lock_ends, take_ends}
use Rattle.protocol.proofs.HeldLaws.{held, LocksOnly, given_up_locks, given_up_only, given_only}
use Rattle.protocol.proofs.StoreLaws.{Fits, plan_fits, mark_only, link_only, Joins, taken_joins}
use Rattle.protocol.proofs.StepLaws.{step_ends}
use Rattle.protocol.proofs.CallLaws.{start_ends, withdraw_ends}

-- from ws to vs, where n actions of phase p are done
pub data Change (ws : List ℕ) (p : Phase) (n : ℕ) (vs : List ℕ) : Type 0 where
  nothing : vs ≡ ws → Change ws p n vs
  a_lock : (slot : ℕ) (which : Which) (write : Bool) → Only (lock_f which) slot (lock_of ws slot which + weight write) ws vs → Change ws p n vs
  a_state : (slot to : ℕ) → Only state_f slot to ws vs → Change ws p n vs
  a_link : (slot : ℕ) (side : Bool) (to : ℕ) → Only (link_f side) slot to ws vs → Change ws p n vs
  a_frame : (f key prev : ℕ) (side : Bool) → Joins f key prev side ws vs → Change ws p n vs
  gave_up : LocksOnly ws vs → ((i : ℕ) (l : Which) → lock_of vs i l ≡ lock_of ws i l - held p n i l) → Change ws p n vs

pub change_up : (ws : List ℕ) (p : Phase) (n : ℕ) → Change ws p n (released ws p n)
change_up ws p n = gave_up (given_up_only ws p n) (given_up_locks ws p n)

-- the change that goes with each action, seat aside
pub act_changes : (ws : List ℕ) (kind : Kind) (key : ℕ) (p : Phase) (n : ℕ) (next : Phase) (a : Action)
    → table_fine ws ≡ true → reads_fine ws a ≡ true → Fits (slots_of ws) a → Change ws p n (act_step ws kind key p n next a).words
unfolding act_step reads_fine
act_changes ws kind key p n next (Visit at prev before side up) t r f = nothing refl
act_changes ws kind key p n next (Look this prev side before up) t r f = nothing refl
act_changes ws kind key p n next (Lock slot which write state links) t r f =
    lock_ends (λ (d : Did). Change ws p n d.words) ws p n next slot which write state links
    (λ g c. a_lock slot which write (given_only ws slot which write state links r g c))
    (λ g c. nothing refl) (λ g h. change_up ws p n) (λ g h. nothing refl)
act_changes ws kind key p n next (Mark slot to) t r f = a_state slot to (mark_only ws slot to r f)
act_changes ws kind key p n next (Link slot side to) t r f = a_link slot side to (link_only ws slot side to t r f)
act_changes ws kind key p n next (Take prev side) t r f =
    take_ends (λ (d : Did). Change ws p n d.words) ws key p n next prev side
    (λ e z. a_frame _ key prev side (taken_joins ws key prev side t r e z))
    (λ e h. change_up ws p n) (λ e h. nothing refl) (λ e z. nothing refl)
act_changes ws kind key p n next End t r f =
    give_up_ends (λ (d : Did). Change ws p n d.words) ws p n (Ends Yes) (λ h. change_up ws p n) (λ h. nothing refl)
act_changes ws kind key p n next Beyond t r f = nothing refl

-- the same by the action: which slot and which field, and that a store stores
pub record GaveUp (ws : List ℕ) (p : Phase) (n : ℕ) (vs : List ℕ) : Type 0 where
  pub all_else : LocksOnly ws vs
  pub off : (i : ℕ) (l : Which) → lock_of vs i l ≡ lock_of ws i l - held p n i l

pub gives_up : (ws : List ℕ) (p : Phase) (n : ℕ) → GaveUp ws p n (released ws p n)
gives_up ws p n = record { all_else = given_up_only ws p n; off = given_up_locks ws p n }

abbrev pub Does : List ℕ → ℕ → Phase → ℕ → Action → List ℕ → Type 0
Does ws key p n (Visit at prev before side up) vs = vs ≡ ws
Does ws key p n (Look this prev side before up) vs = vs ≡ ws
Does ws key p n (Lock slot which write state links) vs =
    (vs ≡ ws) ⊎ (Only (lock_f which) slot (lock_of ws slot which + weight write) ws vs ⊎ GaveUp ws p n vs)
Does ws key p n (Mark slot to) vs = Only state_f slot to ws vs
Does ws key p n (Link slot side to) vs = Only (link_f side) slot to ws vs
Does ws key p n (Take prev side) vs = (vs ≡ ws) ⊎ (Joins (lowest_fit ws) key prev side ws vs ⊎ GaveUp ws p n vs)
Does ws key p n End vs = (vs ≡ ws) ⊎ GaveUp ws p n vs
Does ws key p n Beyond vs = vs ≡ ws

pub act_does : (ws : List ℕ) (kind : Kind) (key : ℕ) (p : Phase) (n : ℕ) (next : Phase) (a : Action)
    → table_fine ws ≡ true → reads_fine ws a ≡ true → Fits (slots_of ws) a → Does ws key p n a (act_step ws kind key p n next a).words
unfolding act_step reads_fine
act_does ws kind key p n next (Visit at prev before side up) t r f = refl
act_does ws kind key p n next (Look this prev side before up) t r f = refl
act_does ws kind key p n next (Lock slot which write state links) t r f =
    lock_ends (λ (d : Did). Does ws key p n (Lock slot which write state links) d.words) ws p n next slot which write state links
    (λ g c. inr (inl (given_only ws slot which write state links r g c)))
    (λ g c. inl refl) (λ g h. inr (inr (gives_up ws p n))) (λ g h. inl refl)
act_does ws kind key p n next (Mark slot to) t r f = mark_only ws slot to r f
act_does ws kind key p n next (Link slot side to) t r f = link_only ws slot side to t r f
act_does ws kind key p n next (Take prev side) t r f =
    take_ends (λ (d : Did). Does ws key p n (Take prev side) d.words) ws key p n next prev side
    (λ e z. inr (inl (taken_joins ws key prev side t r e z)))
    (λ e h. inr (inr (gives_up ws p n))) (λ e h. inl refl) (λ e z. inl refl)
act_does ws kind key p n next End t r f =
    give_up_ends (λ (d : Did). Does ws key p n End d.words) ws p n (Ends Yes) (λ h. inr (gives_up ws p n)) (λ h. inl refl)
act_does ws kind key p n next Beyond t r f = refl

-- a step makes such a change, and an ending leaves the seat besides
pub data Stepping (ws : List ℕ) (p : Phase) (n : ℕ) (us : List ℕ) : Type 0 where
  seat_kept : Change ws p n us → Stepping ws p n us
  seat_left : (vs : List ℕ) → Change ws p n vs → us ≡ leave vs → Stepping ws p n us

pub settled_changes : (w : Worker) (ws : List ℕ) (p : Phase) (n : ℕ) (o : Result Outcome Refusal) (vs : List ℕ) → Change ws p n vs
    → Stepping ws p n (settled w o vs).words
unfolding settled
settled_changes w ws p n (Ok (Goes q)) vs c = seat_kept c
settled_changes w ws p n (Ok (Ends a)) vs c = seat_left vs c refl
settled_changes w ws p n (Err e) vs c = seat_kept c

pub step_changes : (ws : List ℕ) (w : Worker) → Stepping ws w.phase (done_of w.phase) (step_of ws w).words
step_changes ws w =
    step_ends (λ (c : Call Verdict). Stepping ws w.phase (done_of w.phase) c.words) ws w
    (λ t. seat_kept (nothing refl)) (λ t e. seat_kept (nothing refl)) (λ kind t e f. seat_kept (nothing refl))
    (λ kind t e f r. settled_changes w ws w.phase (done_of w.phase) _ _
    (act_changes ws kind w.key w.phase _ _ (action_of w.phase) t r (fits kind f)))
  where
    fits : (kind : Kind) → record_fine ws kind w.key w.phase ≡ true → Fits (slots_of ws) (action_of w.phase)
    fits kind f = plan_fits (slots_of ws) kind w.phase (record_roles ws kind w.key w.phase f) (done_of w.phase)

-- no call changes the table's size
pub change_length : (ws : List ℕ) (p : Phase) (n : ℕ) (vs : List ℕ) → Change ws p n vs → length vs ≡ length ws
change_length ws p n vs (nothing e) = ap length e
change_length ws p n vs (a_lock slot which write o) = o.size
change_length ws p n vs (a_state slot to o) = o.size
change_length ws p n vs (a_link slot side to o) = o.size
change_length ws p n vs (a_frame f key prev side o) = o.size
change_length ws p n vs (gave_up o l) = o.size

pub leave_length : (ws : List ℕ) → length (leave ws) ≡ length ws
unfolding leave
leave_length ws = field_length busy_f ws 0 (busy_of ws - 1)

pub step_length : (ws : List ℕ) (w : Worker) → length (step_of ws w).words ≡ length ws
step_length ws w = go (step_of ws w).words (step_changes ws w)
  where
    go : (us : List ℕ) → Stepping ws w.phase (done_of w.phase) us → length us ≡ length ws
    go us (seat_kept c) = change_length ws _ _ us c
    go us (seat_left vs c e) = ap length e ∙ leave_length vs ∙ change_length ws _ _ vs c

pub start_length : (ws : List ℕ) (w : Worker) (kind : Kind) (key : ℕ) → length (start_of ws w kind key).words ≡ length ws
unfolding seated
start_length ws w kind key =
    start_ends (λ (c : Call (Unit {0})). length c.words ≡ length ws) ws w kind key
    (λ t. refl) (λ t i. refl) (λ t i l. refl) (λ t i l b. refl) (λ t i l b. field_length busy_f ws 0 (busy_of ws + 1))

pub withdraw_length : (ws : List ℕ) (w : Worker) → length (withdraw_of ws w).words ≡ length ws
withdraw_length ws w =
    withdraw_ends (λ (c : Call (Unit {0})). length c.words ≡ length ws) ws w
    (λ t. refl) (λ t i. refl) (λ kind t i f. refl) (λ kind t i f h. refl) (λ kind t i f h s. refl)
    (λ kind t i f h s. leave_length (released ws w.phase (done_of w.phase)) ∙ (given_up_only ws w.phase (done_of w.phase)).size)
