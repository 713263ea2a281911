-- WHAT A STEP THAT ENDS A WORK SAYS, at a good moment: it leaves the set, its answer is true now or was since the start, Full means that
-- no slot is free, and Yes of an insert or remove that the set was changed.
-- Assumes nothing.
use mathlib.Core.Path.{◌≡◌, refl, sym, ap, ◌∙◌}
use mathlib.Core.Bool.{Bool, true, false, true≢false, false≢true}
use mathlib.Core.List.{List}
use mathlib.Core.Logic.{⊎_elim, ◌≢◌}
use Prim.Native.Nat.{ℕ, ◌<◌}
use native.Mathlib.Omega.{arith}
use native.Mathlib.Decide.{ℕ_discrete}
use lib.ListN.{length, get_or, length-map}
use borrow.Author.Tests.{eqb-false}
use Rattle.refusal.specs.Said.{Said, gives}
use Rattle.table.specs.Free.{is_free}
use Rattle.table.specs.Pair.{state_of}
use Rattle.tree.specs.Reach.{Tab, tab_of}
use Rattle.protocol.specs.Says as says
use Rattle.protocol.specs.Says.{Verdict, going, full}
use Rattle.protocol.specs.Plan.{action_of}
use Rattle.protocol.specs.Locks.{Did}
use Rattle.protocol.specs.Stores.{fit, lowest_fit}
use Rattle.protocol.specs.Step.{Call, act_step, settled, idle_worker, step_of}
use Rattle.protocol.specs.Calls.{idle, withdraw_of}
use Rattle.protocol.specs.Alone.{NoneFree}
use Rattle.protocol.specs.declared.Kind.{Kind}
use Rattle.protocol.specs.declared.Kind.TheVariants.{Lookup, Insert, Remove}
use Rattle.protocol.specs.declared.Work.{Work}
use Rattle.protocol.specs.declared.Work.TheVariants.{Busy}
use Rattle.protocol.specs.declared.Worker.{Worker}
use Rattle.protocol.specs.declared.Phase.{Phase}
use Rattle.protocol.specs.declared.Action.{Action}
use Rattle.protocol.specs.declared.Action.TheVariants.{Visit, Look, Lock, Mark, Link, Take, End, Beyond}
use Rattle.protocol.proofs.AnswerLaws.{gave, given_or}
use Rattle.protocol.proofs.Ends.{take_ends}
use Rattle.protocol.proofs.StepLaws.{says_of, settle, step_ends, act_may}
use Rattle.protocol.proofs.CallLaws.{withdraw_ends}
use Rattle.protocol.proofs.StoreLaws.{none_fit}
use Rattle.protocol.proofs.Together.Stages.{Stage, busy, view, doing_by, doing, Fits}
use Rattle.protocol.proofs.Together.Machine as machine
use Rattle.protocol.proofs.Together.Machine.{Answer, said, done}
use Rattle.protocol.proofs.Together.Answers.{Told, told, Closed, closed}
use Rattle.protocol.proofs.Together.Good.{doings, Good}
use Rattle.protocol.proofs.Together.Calls as calls
use Rattle.protocol.proofs.Together.Calls.{StepIs, CallIs, is_busy, the_fit, step_is, withdraw_is}
use Rattle.protocol.proofs.Together.Does.{Same, Ending, move_end}

-- AN IDLE RECORD'S STEP AND WITHDRAW ARE REFUSED

pub gives_busy : (ws : List ℕ) (w : Worker) (v : Verdict) → (step_of ws w).says ≡ gives v → idle w.work ≡ false
gives_busy ws w v =
    step_ends (λ (c : Call Verdict). c.says ≡ gives v → idle w.work ≡ false) ws w
    (λ t q. absurd (gave (sym q))) (λ t i q. absurd (gave (sym q))) (λ kind t i f q. absurd (gave (sym q))) (λ kind t i f r q. ap idle i)

pub withdraws_busy : (ws : List ℕ) (w : Worker) → (withdraw_of ws w).says ≡ gives tt → idle w.work ≡ false
withdraws_busy ws w =
    withdraw_ends (λ (c : Call (Unit {0})). c.says ≡ gives tt → idle w.work ≡ false) ws w
    (λ t q. absurd (gave (sym q))) (λ t i q. absurd (gave (sym q))) (λ kind t i f q. ap idle i) (λ kind t i f h q. ap idle i)
    (λ kind t i f h s q. ap idle i) (λ kind t i f h s q. ap idle i)

-- FULL: no slot is free

abbrev is_full : Verdict → Bool
is_full going = false
is_full says.yes = false
is_full says.no = false
is_full full = true

not_full : (v : Verdict) → is_full v ≡ false → {x : Said Verdict} → x ≡ gives v → x ≡ gives full → ⊥
not_full v n e f = true≢false (sym (ap (λ (y : Said Verdict). is_full (given_or going y)) (sym e ∙ f)) ∙ n)

full_act : (w : Worker) (ws : List ℕ) (kind : Kind) (key : ℕ) (p : Phase) (n : ℕ) (next : Phase) (a : Action)
    → (settle w (act_step ws kind key p n next a)).says ≡ gives full → lowest_fit ws ≡ 0
unfolding act_step settled
full_act w ws kind key p n next (Visit at prev before side up) q =
    absurd (⊎_elim (λ v. not_full going refl v q) (⊎_elim (λ v. not_full says.yes refl v q) (λ v. not_full says.no refl v q))
    (act_may w ws kind key p n next (Visit at prev before side up)))
full_act w ws kind key p n next (Look this prev side before up) q = absurd (not_full going refl (act_may w ws kind key p n next (Look this prev side before up)) q)
full_act w ws kind key p n next (Lock slot which write state links) q =
    absurd (⊎_elim (λ v. not_full going refl v q) (⊎_elim (λ v. gave (sym q ∙ v)) (λ v. gave (sym q ∙ v)))
    (act_may w ws kind key p n next (Lock slot which write state links)))
full_act w ws kind key p n next (Mark slot to) q = absurd (not_full going refl refl q)
full_act w ws kind key p n next (Link slot side to) q = absurd (not_full going refl refl q)
full_act w ws kind key p n next (Take prev side) q =
    take_ends (λ (d : Did). (settle w d).says ≡ gives full → lowest_fit ws ≡ 0) ws key p n next prev side
    (λ f z x. absurd (not_full going refl refl x)) (λ f h x. f) (λ f h x. f) (λ f z x. absurd (gave (sym x))) q
full_act w ws kind key p n next End q =
    absurd (⊎_elim (λ v. not_full says.yes refl v q) (λ v. gave (sym q ∙ v)) (act_may w ws kind key p n next End))
full_act w ws kind key p n next Beyond q = absurd (gave (sym q))

full_none : (ws : List ℕ) (w : Worker) → (step_of ws w).says ≡ gives full → lowest_fit ws ≡ 0
full_none ws w =
    step_ends (λ (c : Call Verdict). c.says ≡ gives full → lowest_fit ws ≡ 0) ws w
    (λ t q. absurd (gave (sym q))) (λ t i q. absurd (gave (sym q))) (λ kind t i f q. absurd (gave (sym q)))
    (λ kind t i f r q. full_act w ws kind w.key w.phase _ _ (action_of w.phase) q)

pub none_free : (ws : List ℕ) (w : Worker) → state_of ws 0 ≡ 1 → (step_of ws w).says ≡ gives full → NoneFree ws
unfolding fit is_free
none_free ws w r e x l = go (ℕ_discrete x 0)
  where
    go : Dec (x ≡ 0) → state_of ws x ≢ 0
    go (yes z) = rw (z, r) (omega arith)
    go (no z) = eqb-false (state_of ws x) 0 (none_fit ws (full_none ws w e) x (omega arith) l)

-- only an insert says it
abbrev tells_full : Answer → Bool
tells_full (said v) = is_full v
tells_full done = false

other : (v : Verdict) → is_full v ≡ false → said v ≡ said full → ⊥
other v n f = true≢false (sym (ap tells_full f) ∙ n)

not_done : done ≡ said full → ⊥
not_done f = false≢true (ap tells_full f)

full_kind : {A : Tab} {k : ℕ} {j : Kind} {p : Stage} {r : Answer} → machine.End A k j p r → r ≡ said full → Fits j p → j ≡ Insert
full_kind (machine.look_yes e s) f g = absurd (other says.yes refl f)
full_kind (machine.look_no m) f g = absurd (other says.no refl f)
full_kind (machine.ins_no e s) f g = refl
full_kind (machine.rem_no m) f g = absurd (other says.no refl f)
full_kind (machine.ins_full {j = Lookup}) f g = absurd g.0
full_kind (machine.ins_full {j = Insert}) f g = refl
full_kind (machine.ins_full {j = Remove}) f g = absurd g.0
full_kind machine.last_yes f g = absurd (other says.yes refl f)
full_kind (machine.leave b) f g = absurd (not_done f)

-- A STEP THAT ENDS A WORK
module _ {ws : List ℕ} {rs : List Worker} {O : ℕ → ℕ → Type 0} {T : ℕ → ℕ} (g : Good ws rs O T) (a : ℕ) (la : a < length rs) (kind : Kind) (e : (get_or rs a idle_worker).work ≡ Busy kind) where
  abbrev w : Worker
  w = get_or rs a idle_worker

  abbrev stage : Stage
  stage = view w.phase

  low : a < length (doings rs)
  low = rw (length-map rs doing) la

  as_busy : doing w ≡ busy kind w.key stage
  as_busy = ap (λ (k : Work). doing_by k w.key w.phase) e

  pub step_end : (v : Verdict) → Ending (said v) → (step_of ws w).says ≡ gives v
      → machine.End (tab_of ws) w.key kind stage (said v) × Same (tab_of ws) (tab_of (step_of ws w).words)
  step_end v h q = go (step_of ws w) q (step_is g a la)
    where
      go : (c : Call Verdict) → c.says ≡ gives v → StepIs ws w c → machine.End (tab_of ws) w.key kind stage (said v) × Same (tab_of ws) (tab_of c.words)
      go c f (calls.refusing n x) = absurd (gave (sym f ∙ ap says_of x))
      go c f (calls.moving u x m) =
          let z : u ≡ v = ap (given_or going) (sym x ∙ f) in
          let y = move_end m.move (rw z h) (rw as_busy tt) in
          (rw (as_busy, z) at y.0, y.1)

  pub withdraw_end : (withdraw_of ws w).says ≡ gives tt → machine.End (tab_of ws) w.key kind stage done
  withdraw_end q = go (withdraw_of ws w) q (withdraw_is g a la)
    where
      go : (c : Call (Unit {0})) → c.says ≡ gives tt → CallIs ws w c → machine.End (tab_of ws) w.key kind stage done
      go c f (calls.refusing n x) = absurd (gave (sym f ∙ ap says_of x))
      go c f (calls.moving m) = let y = move_end m.move tt (rw as_busy tt) in rw as_busy at y.0

  pub step_told : (v : Verdict) → Ending (said v) → (step_of ws w).says ≡ gives v → Told (tab_of ws) (O a w.key) kind w.key (said v)
  step_told v h q = told g.inv a low (is_busy g a la kind e) (step_end v h q).0

  pub step_closed : (v : Verdict) → Ending (said v) → (step_of ws w).says ≡ gives v → Closed kind stage (said v)
  step_closed v h q = closed (step_end v h q).0 (the_fit g a la kind e)

  pub withdraw_closed : (withdraw_of ws w).says ≡ gives tt → Closed kind stage done
  withdraw_closed q = closed (withdraw_end q) (the_fit g a la kind e)

  pub step_full : (step_of ws w).says ≡ gives full → kind ≡ Insert
  step_full q = full_kind (step_end full tt q).0 refl (the_fit g a la kind e)
