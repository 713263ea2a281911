-- WHY A CALL IS REFUSED: each number when document 01 says, and only then. (That a call is refused where one of these holds is the
-- order of the definitions' own tests: `start_of`, `step_of`, `withdraw_of`.)
-- Assumes nothing.
use mathlib.Core.Path.{◌≡◌, refl, sym, ap, ◌∙◌, subst}
use mathlib.Core.Bool.{Bool, true, false, ◌&&◌, false≢true}
use mathlib.Core.List.{List}
use mathlib.Core.Logic.{◌⊎◌, inl, inr, ◌≢◌}
use Prim.Native.Nat.{ℕ, ◌≤◌}
use Rattle.refusal.specs.Said.{Said, refuses}
use Rattle.moment.specs.Key.{legal_of}
use Rattle.table.specs.Pair.{busy_of, zero_pair}
use Rattle.table.specs.Rules.{table_fine}
use Rattle.table.specs.declared.Which.{Which}
use Rattle.protocol.specs.Says.{Verdict}
use Rattle.protocol.specs.Plan.{done_of, next_of, action_of}
use Rattle.protocol.specs.Record.{record_fine}
use Rattle.protocol.specs.Locks.{Did, all_held}
use Rattle.protocol.specs.Stores.{lowest_fit}
use Rattle.protocol.specs.Step.{Call, reads_fine, act_step, settled, step_of}
use Rattle.protocol.specs.Calls.{idle, stored, start_of, withdraw_of}
use Rattle.protocol.specs.declared.Kind.{Kind}
use Rattle.protocol.specs.declared.Work.TheVariants.{Idle, Busy}
use Rattle.protocol.specs.declared.Worker.{Worker}
use Rattle.protocol.specs.declared.Links.{Links}
use Rattle.protocol.specs.declared.Action.{Action}
use Rattle.protocol.specs.declared.Action.TheVariants.{Visit, Look, Lock, Mark, Link, Take, End, Beyond}
use Rattle.protocol.specs.declared.Answer.TheVariants.{Yes}
use Rattle.protocol.specs.declared.Outcome.TheVariants.{Ends}
use Rattle.protocol.proofs.AnswerLaws.{gave, refusal_of}
use Rattle.protocol.proofs.Ends.{give_up_ends, lock_ends, take_ends}
use Rattle.protocol.proofs.StepLaws.{settle, step_ends, May, act_may}
use Rattle.protocol.proofs.CallLaws.{start_ends, withdraw_ends}
use Rattle.protocol.proofs.Nine.{Nine, nine}

-- START

pub data WhyStart (ws : List ℕ) (w : Worker) (key : ℕ) : ℕ → Type 0 where
  a_rule_of_the_table : table_fine ws ≡ false → WhyStart ws w key 1
  busy_already : idle w.work ≡ false → WhyStart ws w key 2
  key_not_legal : legal_of key ≡ false → WhyStart ws w key 3
  sixteen_busy : 16 ≤ busy_of ws → WhyStart ws w key 4

pub start_refuses : (ws : List ℕ) (w : Worker) (kind : Kind) (key n : ℕ) → (start_of ws w kind key).says ≡ refuses n → WhyStart ws w key n
start_refuses ws w kind key n =
    start_ends (λ c. c.says ≡ refuses n → WhyStart ws w key n) ws w kind key
    (λ t e. so (a_rule_of_the_table t) e) (λ t i e. so (busy_already i) e) (λ t i l e. so (key_not_legal l) e)
    (λ t i l b e. so (sixteen_busy b) e) (λ t i l b e. absurd (gave e))
  where
    so : {m : ℕ} → WhyStart ws w key m → ◌≡◌ {A = Said (Unit {0})} (refuses m) (refuses n) → WhyStart ws w key n
    so y e = subst (WhyStart ws w key) (ap refusal_of e) y

-- STEP

-- document 01's list of 6: the record; a pair that the step reads or stores to; a pair that is unlocked, or a lock that is not held;
-- the free slot
pub data Damaged (ws : List ℕ) (kind : Kind) (w : Worker) : Type 0 where
  the_record : record_fine ws kind w.key w.phase ≡ false → Damaged ws kind w
  a_pair : reads_fine ws (action_of w.phase) ≡ false → Damaged ws kind w
  a_lock : all_held ws w.phase (done_of w.phase) ≡ false → Damaged ws kind w
  the_free_slot : lowest_fit ws ≢ 0 → zero_pair ws (lowest_fit ws) ≡ false → Damaged ws kind w

pub data WhyStep (ws : List ℕ) (w : Worker) : ℕ → Type 0 where
  a_rule : table_fine ws ≡ false → WhyStep ws w 1
  not_busy : w.work ≡ Idle → WhyStep ws w 2
  damaged : (kind : Kind) → w.work ≡ Busy kind → Damaged ws kind w → WhyStep ws w 6
  readers : (slot : ℕ) (which : Which) (write : Bool) (state : ℕ) (links : Links)
      → action_of w.phase ≡ Lock slot which write state links → Nine ws slot which write state links → WhyStep ws w 9

not_both : (a b : Bool) → (a && b) ≡ false → (a ≡ false) ⊎ (b ≡ false)
not_both true b e = inr e
not_both false b e = inl refl

module _ (ws : List ℕ) (w : Worker) (n : ℕ) where
  so : {m : ℕ} → WhyStep ws w m → ◌≡◌ {A = Said Verdict} (refuses m) (refuses n) → WhyStep ws w n
  so y e = subst (WhyStep ws w) (ap refusal_of e) y

  act_why : (kind : Kind) → w.work ≡ Busy kind → (a : Action) → action_of w.phase ≡ a → reads_fine ws a ≡ true
      → (settle w (act_step ws kind w.key w.phase (done_of w.phase) (next_of w.phase) a)).says ≡ refuses n → WhyStep ws w n
  unfolding act_step reads_fine settled
  act_why kind b (Visit at prev before side up) q r e =
      go (act_may w ws kind w.key w.phase (done_of w.phase) (next_of w.phase) (Visit at prev before side up))
    where
      go : May (Visit at prev before side up) (settle w (act_step ws kind w.key w.phase (done_of w.phase) (next_of w.phase) (Visit at prev before side up))).says
          → WhyStep ws w n
      go (inl f) = absurd (gave (sym f ∙ e))
      go (inr (inl f)) = absurd (gave (sym f ∙ e))
      go (inr (inr f)) = absurd (gave (sym f ∙ e))
  act_why kind b (Look this prev side before up) q r e =
      absurd (gave (sym (act_may w ws kind w.key w.phase (done_of w.phase) (next_of w.phase) (Look this prev side before up)) ∙ e))
  act_why kind b (Lock slot which write state links) q r h₀ =
      lock_ends (λ (d : Did). (settle w d).says ≡ refuses n → WhyStep ws w n) ws w.phase (done_of w.phase) (next_of w.phase) slot which write state links
      (λ g c e. absurd (gave e))
      (λ g c e. so (readers slot which write state links q (nine ws slot which write state links r g c)) e)
      (λ g h e. absurd (gave e)) (λ g h e. so (damaged kind b (a_lock h)) e)
      h₀
  act_why kind b (Mark slot to) q r e = absurd (gave e)
  act_why kind b (Link slot side to) q r e = absurd (gave e)
  act_why kind b (Take prev side) q r h₀ =
      take_ends (λ (d : Did). (settle w d).says ≡ refuses n → WhyStep ws w n) ws w.key w.phase (done_of w.phase) (next_of w.phase) prev side
      (λ f z e. absurd (gave e)) (λ f h e. absurd (gave e)) (λ f h e. so (damaged kind b (a_lock h)) e)
      (λ f z e. so (damaged kind b (the_free_slot f z)) e)
      h₀
  act_why kind b End q r h₀ =
      give_up_ends (λ (d : Did). (settle w d).says ≡ refuses n → WhyStep ws w n) ws w.phase (done_of w.phase) (Ends Yes)
      (λ h e. absurd (gave e)) (λ h e. so (damaged kind b (a_lock h)) e)
      h₀
  act_why kind b Beyond q r e = absurd (false≢true r)

  pub step_refuses : (step_of ws w).says ≡ refuses n → WhyStep ws w n
  step_refuses =
      step_ends (λ (c : Call Verdict). c.says ≡ refuses n → WhyStep ws w n) ws w
      (λ t e. so (a_rule t) e) (λ t i e. so (not_busy i) e)
      (λ kind t b f e. so (damaged kind b (which_damage kind f)) e)
      (λ kind t b f r e. act_why kind b (action_of w.phase) refl r e)
    where
      go : (kind : Kind) → (record_fine ws kind w.key w.phase ≡ false) ⊎ (reads_fine ws (action_of w.phase) ≡ false) → Damaged ws kind w
      go kind (inl f) = the_record f
      go kind (inr f) = a_pair f

      which_damage : (kind : Kind) → (record_fine ws kind w.key w.phase && reads_fine ws (action_of w.phase)) ≡ false → Damaged ws kind w
      which_damage kind f = go kind (not_both (record_fine ws kind w.key w.phase) (reads_fine ws (action_of w.phase)) f)

-- WITHDRAW

pub data WhyWithdraw (ws : List ℕ) (w : Worker) : ℕ → Type 0 where
  the_table : table_fine ws ≡ false → WhyWithdraw ws w 1
  nothing_in_hand : w.work ≡ Idle → WhyWithdraw ws w 2
  record_or_lock : (kind : Kind) → w.work ≡ Busy kind → Damaged ws kind w → WhyWithdraw ws w 6
  stored_already : stored w.phase (done_of w.phase) ≡ true → WhyWithdraw ws w 7

pub withdraw_refuses : (ws : List ℕ) (w : Worker) (n : ℕ) → (withdraw_of ws w).says ≡ refuses n → WhyWithdraw ws w n
withdraw_refuses ws w n =
    withdraw_ends (λ c. c.says ≡ refuses n → WhyWithdraw ws w n) ws w
    (λ t e. so (the_table t) e) (λ t i e. so (nothing_in_hand i) e) (λ kind t b f e. so (record_or_lock kind b (the_record f)) e)
    (λ kind t b f h e. so (record_or_lock kind b (a_lock h)) e) (λ kind t b f h s e. so (stored_already s) e)
    (λ kind t b f h s e. absurd (gave e))
  where
    so : {m : ℕ} → WhyWithdraw ws w m → ◌≡◌ {A = Said (Unit {0})} (refuses m) (refuses n) → WhyWithdraw ws w n
    so y e = subst (WhyWithdraw ws w) (ap refusal_of e) y
