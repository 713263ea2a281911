-- A step: rules 1, 2 and 6, or the plan's next action; which answers it can give, and the record after each.
-- Assumes nothing.
use mathlib.Core.Path.{◌≡◌, refl, sym, ap, ◌∙◌}
use mathlib.Core.Bool.{Bool, true, false, ◌&&◌, false≢true}
use mathlib.Core.List.{List}
use mathlib.Core.Logic.{◌⊎◌, inl, inr, ◌≢◌}
use Prim.Native.Nat.{ℕ}
use Rattle.refusal.specs.Said.{Said, gives, refuses}
use Rattle.moment.proofs.Tests.{tests, by_cases}
use Rattle.table.specs.Rules.{table_fine}
use Rattle.protocol.specs.Says.{Verdict, going, yes, no, full}
use Rattle.protocol.specs.Plan.{done_of, next_of, action_of, at_root}
use Rattle.protocol.specs.Record.{record_fine}
use Rattle.protocol.specs.Locks.{Did}
use Rattle.protocol.specs.Walk.{visit}
use Rattle.protocol.specs.Step.{Call, refused, reads_fine, act_step, busy_step, work_step, step_did, settled, idle_worker, leave, step_of}
use Rattle.protocol.specs.declared.Kind.{Kind}
use Rattle.protocol.specs.declared.Kind.TheVariants.{Lookup, Insert, Remove}
use Rattle.protocol.specs.declared.Work.{Work}
use Rattle.protocol.specs.declared.Work.TheVariants.{Idle, Busy}
use Rattle.protocol.specs.declared.Phase.{Phase}
use Rattle.protocol.specs.declared.Worker.{Worker}
use Rattle.protocol.specs.declared.Action.{Action}
use Rattle.protocol.specs.declared.Action.TheVariants.{Visit, Look, Lock, Mark, Link, Take, End, Beyond}
use Rattle.protocol.specs.declared.Answer.TheVariants.{Yes, No, Full}
use Rattle.protocol.specs.declared.Outcome.TheVariants.{Goes, Ends}
use Rattle.std.specs.Prelude.{Ok, Err}
use Rattle.refusal.specs.declared.Refusal.{Refusal}
use Rattle.refusal.specs.declared.Refusal.TheVariants.{Damaged, Readers}
use Rattle.refusal.specs.Said.{number}
use Rattle.protocol.proofs.AnswerLaws.{gave, refusal_of, given_or}
use Rattle.protocol.proofs.Ends.{give_up_ends, lock_ends, take_ends, removing_ends, lookup_ends, insert_ends, remove_ends, look_ends}

-- an action's end, settled
abbrev pub settle : Worker → Did → Call Verdict
settle w d = settled w d.said d.words

-- to prove something of a step: of refusals 1, 2 and 6, and of the action of a record that is fine
pub step_ends : (P : Call Verdict → Type 0) (ws : List ℕ) (w : Worker)
    → (table_fine ws ≡ false → P (refused 1 w ws))
    → (table_fine ws ≡ true → w.work ≡ Idle → P (refused 2 w ws))
    → ((kind : Kind) → table_fine ws ≡ true → w.work ≡ Busy kind
    → (record_fine ws kind w.key w.phase && reads_fine ws (action_of w.phase)) ≡ false → P (refused 6 w ws))
    → ((kind : Kind) → table_fine ws ≡ true → w.work ≡ Busy kind
    → record_fine ws kind w.key w.phase ≡ true → reads_fine ws (action_of w.phase) ≡ true
    → P (settle w (act_step ws kind w.key w.phase (done_of w.phase) (next_of w.phase) (action_of w.phase))))
    → P (step_of ws w)
unfolding step_of step_did work_step busy_step settled
step_ends P ws w one two six acts =
    by_cases (λ (d : Did). P (settle w d)) (table_fine ws) (λ t. go t w.work refl) one
  where
    go : table_fine ws ≡ true → (k : Work) → w.work ≡ k → P (settle w (work_step ws k w.key w.phase))
    go t Idle e = two t e
    go t (Busy kind) e =
        by_cases (λ (d : Did). P (settle w d)) (record_fine ws kind w.key w.phase && reads_fine ws (action_of w.phase))
        (λ f. let h = simp tests at f in acts kind t e h.0 h.1) (six kind t e)

-- what a call's end may be: refused, and nothing changes; going on, with the same kind of work and key; or ended, with an
-- idle record and the seat given up
pub data Fair (w : Worker) (ws : List ℕ) (c : Call Verdict) : Type 0 where
  refusing : (n : ℕ) → c ≡ refused n w ws → Fair w ws c
  going_on : (p : Phase) (vs : List ℕ) → c ≡ record { says = gives going; worker = record { work = w.work; key = w.key; phase = p }; words = vs } → Fair w ws c
  ending : (v : Verdict) (vs : List ℕ) → v ≢ going → c ≡ record { says = gives v; worker = idle_worker; words = leave vs } → Fair w ws c

abbrev pub is_going : Verdict → Bool
is_going going = true
is_going yes = false
is_going no = false
is_going full = false

pub fair_goes : (w : Worker) (ws vs : List ℕ) (p : Phase) → Fair w ws (settled w (Ok (Goes p)) vs)
unfolding settled
fair_goes w ws vs p = going_on p vs refl

pub fair_refuses : (w : Worker) (ws : List ℕ) (e : Refusal) → Fair w ws (settled w (Err e) ws)
unfolding settled
fair_refuses w ws e = refusing (number e) refl

pub fair_yes : (w : Worker) (ws vs : List ℕ) → Fair w ws (settled w (Ok (Ends Yes)) vs)
unfolding settled
fair_yes w ws vs = ending yes vs (λ e. false≢true (ap is_going e)) refl

pub fair_no : (w : Worker) (ws vs : List ℕ) → Fair w ws (settled w (Ok (Ends No)) vs)
unfolding settled
fair_no w ws vs = ending no vs (λ e. false≢true (ap is_going e)) refl

pub fair_full : (w : Worker) (ws vs : List ℕ) → Fair w ws (settled w (Ok (Ends Full)) vs)
unfolding settled
fair_full w ws vs = ending full vs (λ e. false≢true (ap is_going e)) refl

pub fair_visit : (w : Worker) (ws : List ℕ) (kind : Kind) (key at prev before : ℕ) (side up : Bool)
    → Fair w ws (settled w (Ok (visit ws kind key at prev before side up)) ws)
fair_visit w ws Lookup key at prev before side up =
    lookup_ends (λ o. Fair w ws (settled w (Ok o) ws)) ws key at prev before side up
    (λ k s. fair_yes w ws ws) (λ k s. fair_no w ws ws) (λ k c. fair_no w ws ws) (λ k c. fair_goes w ws ws _)
fair_visit w ws Insert key at prev before side up =
    insert_ends (λ o. Fair w ws (settled w (Ok o) ws)) ws key at prev before side up
    (λ k s. fair_no w ws ws) (λ k s. fair_goes w ws ws _) (λ k s d. fair_goes w ws ws _) (λ k c. fair_goes w ws ws _) (λ k c. fair_goes w ws ws _)
fair_visit w ws Remove key at prev before side up =
    remove_ends (λ o. Fair w ws (settled w (Ok o) ws)) ws key at prev before side up
    (λ k s. fair_no w ws ws)
    (λ k s. removing_ends (λ o. Fair w ws (settled w (Ok o) ws)) _ _ at prev before side up
    (λ l r. fair_goes w ws ws _) (λ l r. fair_goes w ws ws _) (λ l r. fair_goes w ws ws _) (λ l r. fair_goes w ws ws _))
    (λ k c. fair_no w ws ws) (λ k c. fair_goes w ws ws _)

-- every action ends fairly
pub fair_act : (w : Worker) (ws : List ℕ) (kind : Kind) (key : ℕ) (p : Phase) (n : ℕ) (next : Phase) (a : Action)
    → Fair w ws (settle w (act_step ws kind key p n next a))
unfolding act_step
fair_act w ws kind key p n next (Visit at prev before side up) = fair_visit w ws kind key at prev before side up
fair_act w ws kind key p n next (Look this prev side before up) =
    look_ends (λ o. Fair w ws (settled w (Ok o) ws)) ws this prev side before up
    (λ d. fair_goes w ws ws _) (λ s. fair_goes w ws ws _) (λ d s c. fair_goes w ws ws _) (λ d s c. fair_goes w ws ws _)
fair_act w ws kind key p n next (Lock slot which write state links) =
    lock_ends (λ d. Fair w ws (settle w d)) ws p n next slot which write state links
    (λ g c. fair_goes w ws _ next) (λ g c. fair_refuses w ws Readers) (λ g h. fair_goes w ws _ at_root) (λ g h. fair_refuses w ws Damaged)
fair_act w ws kind key p n next (Mark slot to) = fair_goes w ws _ next
fair_act w ws kind key p n next (Link slot side to) = fair_goes w ws _ next
fair_act w ws kind key p n next (Take prev side) =
    take_ends (λ d. Fair w ws (settle w d)) ws key p n next prev side
    (λ f z. fair_goes w ws _ next) (λ f h. fair_full w ws _) (λ f h. fair_refuses w ws Damaged) (λ f z. fair_refuses w ws Damaged)
fair_act w ws kind key p n next End =
    give_up_ends (λ d. Fair w ws (settle w d)) ws p n (Ends Yes) (λ h. fair_yes w ws _) (λ h. fair_refuses w ws Damaged)
fair_act w ws kind key p n next Beyond = fair_refuses w ws Damaged

-- and so does every step
pub step_fair : (ws : List ℕ) (w : Worker) → Fair w ws (step_of ws w)
step_fair ws w =
    step_ends (Fair w ws) ws w (λ t. refusing 1 refl) (λ t e. refusing 2 refl) (λ kind t e f. refusing 6 refl)
    (λ kind t e f r. fair_act w ws kind w.key w.phase _ _ (action_of w.phase))

-- So: a refused step changes nothing; a step that goes on keeps kind and key; one that ends leaves an idle record, and its
-- seat

abbrev pub says_of : {A : Type 0} → Call A → Said A
says_of c = c.says

pub step_refused : (ws : List ℕ) (w : Worker) (n : ℕ) → (step_of ws w).says ≡ refuses n → step_of ws w ≡ refused n w ws
step_refused ws w n e = go (step_of ws w) (step_fair ws w) e
  where
    go : (c : Call Verdict) → Fair w ws c → c.says ≡ refuses n → c ≡ refused n w ws
    go c (refusing m f) h = f ∙ ap (λ (k : ℕ). refused {A = Verdict} k w ws) (ap refusal_of (sym (ap says_of f) ∙ h))
    go c (going_on p vs f) h = absurd (gave (sym (ap says_of f) ∙ h))
    go c (ending v vs d f) h = absurd (gave (sym (ap says_of f) ∙ h))

pub step_going : (ws : List ℕ) (w : Worker) → (step_of ws w).says ≡ gives going
    → ((step_of ws w).worker.work ≡ w.work) × ((step_of ws w).worker.key ≡ w.key)
step_going ws w e = go (step_of ws w) (step_fair ws w) e
  where
    go : (c : Call Verdict) → Fair w ws c → c.says ≡ gives going → (c.worker.work ≡ w.work) × (c.worker.key ≡ w.key)
    go c (refusing m f) h = absurd (gave (sym h ∙ ap says_of f))
    go c (going_on p vs f) h = (ap (λ (x : Call Verdict). x.worker.work) f, ap (λ (x : Call Verdict). x.worker.key) f)
    go c (ending v vs d f) h = absurd (d (ap (given_or going) (sym (ap says_of f) ∙ h)))

pub step_ended : (ws : List ℕ) (w : Worker) (v : Verdict) → v ≢ going → (step_of ws w).says ≡ gives v
    → ((step_of ws w).worker ≡ idle_worker) × ((vs : List ℕ) × ((step_of ws w).words ≡ leave vs))
step_ended ws w v d e = go (step_of ws w) (step_fair ws w) e
  where
    go : (c : Call Verdict) → Fair w ws c → c.says ≡ gives v → (c.worker ≡ idle_worker) × ((vs : List ℕ) × (c.words ≡ leave vs))
    go c (refusing m f) h = absurd (gave (sym h ∙ ap says_of f))
    go c (going_on p vs f) h = absurd (d (ap (given_or going) (sym h ∙ ap says_of f)))
    go c (ending u vs k f) h = (ap (λ (x : Call Verdict). x.worker) f, (vs, ap (λ (x : Call Verdict). x.words) f))

-- Which answers which action can give

abbrev pub May : Action → Said Verdict → Type 0
May (Visit at prev before side up) s = (s ≡ gives going) ⊎ ((s ≡ gives yes) ⊎ (s ≡ gives no))
May (Look this prev side before up) s = s ≡ gives going
May (Lock slot which write state links) s = (s ≡ gives going) ⊎ ((s ≡ refuses 6) ⊎ (s ≡ refuses 9))
May (Mark slot to) s = s ≡ gives going
May (Link slot side to) s = s ≡ gives going
May (Take prev side) s = (s ≡ gives going) ⊎ ((s ≡ gives full) ⊎ (s ≡ refuses 6))
May End s = (s ≡ gives yes) ⊎ (s ≡ refuses 6)
May Beyond s = s ≡ refuses 6

pub visit_may : (w : Worker) (ws : List ℕ) (kind : Kind) (key at prev before : ℕ) (side up : Bool)
    → ((settled w (Ok (visit ws kind key at prev before side up)) ws).says ≡ gives going)
    ⊎ (((settled w (Ok (visit ws kind key at prev before side up)) ws).says ≡ gives yes)
    ⊎ ((settled w (Ok (visit ws kind key at prev before side up)) ws).says ≡ gives no))
unfolding settled
visit_may w ws Lookup key at prev before side up =
    lookup_ends (λ o. May (Visit at prev before side up) (settled w (Ok o) ws).says) ws key at prev before side up
    (λ k s. inr (inl refl)) (λ k s. inr (inr refl)) (λ k c. inr (inr refl)) (λ k c. inl refl)
visit_may w ws Insert key at prev before side up =
    insert_ends (λ o. May (Visit at prev before side up) (settled w (Ok o) ws).says) ws key at prev before side up
    (λ k s. inr (inr refl)) (λ k s. inl refl) (λ k s d. inl refl) (λ k c. inl refl) (λ k c. inl refl)
visit_may w ws Remove key at prev before side up =
    remove_ends (λ o. May (Visit at prev before side up) (settled w (Ok o) ws).says) ws key at prev before side up
    (λ k s. inr (inr refl))
    (λ k s. removing_ends (λ o. May (Visit at prev before side up) (settled w (Ok o) ws).says) _ _ at prev before side up
    (λ l r. inl refl) (λ l r. inl refl) (λ l r. inl refl) (λ l r. inl refl))
    (λ k c. inr (inr refl)) (λ k c. inl refl)

pub act_may : (w : Worker) (ws : List ℕ) (kind : Kind) (key : ℕ) (p : Phase) (n : ℕ) (next : Phase) (a : Action)
    → May a (settle w (act_step ws kind key p n next a)).says
unfolding act_step settled
act_may w ws kind key p n next (Visit at prev before side up) = visit_may w ws kind key at prev before side up
act_may w ws kind key p n next (Look this prev side before up) =
    look_ends (λ o. (settled w (Ok o) ws).says ≡ gives going) ws this prev side before up
    (λ d. refl) (λ s. refl) (λ d s c. refl) (λ d s c. refl)
act_may w ws kind key p n next (Lock slot which write state links) =
    lock_ends (λ d. May (Lock slot which write state links) (settle w d).says) ws p n next slot which write state links
    (λ g c. inl refl) (λ g c. inr (inr refl)) (λ g h. inl refl) (λ g h. inr (inl refl))
act_may w ws kind key p n next (Mark slot to) = refl
act_may w ws kind key p n next (Link slot side to) = refl
act_may w ws kind key p n next (Take prev side) =
    take_ends (λ d. May (Take prev side) (settle w d).says) ws key p n next prev side
    (λ f z. inl refl) (λ f h. inr (inl refl)) (λ f h. inr (inr refl)) (λ f z. inr (inr refl))
act_may w ws kind key p n next End =
    give_up_ends (λ d. May End (settle w d).says) ws p n (Ends Yes) (λ h. inl refl) (λ h. inr refl)
act_may w ws kind key p n next Beyond = refl
