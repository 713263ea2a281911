-- NO CALL OF A GOOD MOMENT IS REFUSED 1, 6 OR 9: a step of a busy record is never refused, a withdraw only for 7, a start of an
-- idle record only for 3 and 4.
-- Assumes nothing.
use mathlib.Core.Path.{◌≡◌, refl, sym, ap, ◌∙◌, subst}
use mathlib.Core.Bool.{Bool, true, false, not, true≢false, ◌&&◌}
use mathlib.Core.List.{List, [], ◌∷◌}
use mathlib.Core.Logic.{◌⊎◌, inl, inr, ⊎_elim, ◌≢◌}
use Prim.Native.Nat.{ℕ, zero, suc, ◌<◌}
use native.Mathlib.Omega.{arith}
use lib.ListN.{length, get_or, length-map}
use borrow.Author.Tests.{ne_eqb, lt-leb}
use Rattle.refusal.specs.Said.{refuses}
use Rattle.table.specs.Pair.{lock_f, slots_of, state_of, lock_of, busy_of, zero_pair}
use Rattle.table.specs.Rules.{table_fine}
use Rattle.table.specs.declared.Which.{Which}
use Rattle.table.specs.declared.Which.TheVariants.{State, Edge}
use Rattle.tree.specs.Reach.{tab_of}
use Rattle.protocol.specs.Says.{Verdict}
use Rattle.protocol.specs.Plan.{plan, action_at, action_of, done_of}
use Rattle.protocol.specs.Record.{record_fine}
use Rattle.protocol.specs.Locks.{Did, crowded, all_held}
use Rattle.protocol.specs.Stores.{lowest_fit}
use Rattle.protocol.specs.Step.{Call, settled, reads_fine, act_step, idle_worker, step_of}
use Rattle.protocol.specs.Calls.{idle, start_of, withdraw_of}
use Rattle.protocol.specs.declared.Kind.{Kind}
use Rattle.protocol.specs.declared.Work.TheVariants.{Idle, Busy}
use Rattle.protocol.specs.declared.Worker.{Worker}
use Rattle.protocol.specs.declared.Phase.{Phase}
use Rattle.protocol.specs.declared.Phase.TheVariants.{Walk, OnRouting, New, Two, One, Leaf, UnderData, UnderRouting}
use Rattle.protocol.specs.declared.Action.{Action}
use Rattle.protocol.specs.declared.Action.TheVariants.{Visit, Look, Lock, Mark, Link, Take, End, Beyond}
use Rattle.protocol.specs.declared.Answer.TheVariants.{Yes}
use Rattle.protocol.specs.declared.Outcome.TheVariants.{Ends}
use Rattle.protocol.proofs.AnswerLaws.{gave, refusal_of}
use Rattle.protocol.proofs.Ends.{give_up_ends, lock_ends, take_ends}
use Rattle.protocol.proofs.StepLaws.{settle, step_ends, visit_may, act_may}
use Rattle.protocol.proofs.CallLaws.{start_ends, withdraw_ends}
use Rattle.protocol.proofs.StoreLaws.{lowest_fit_lem, zero_field}
use Rattle.protocol.proofs.Mistakes.{fit_free}
use Rattle.protocol.proofs.Together.Sum.{sum_at}
use Rattle.protocol.proofs.Together.Locks.{Held, Among, unit_other, units, units_none}
use Rattle.protocol.proofs.Together.Facts.{hold}
use Rattle.protocol.proofs.Together.Wishes.{locks}
use Rattle.protocol.proofs.Together.Stages as stages
use Rattle.protocol.proofs.Together.Stages.{Doing, view, held_in, held, Fits}
use Rattle.protocol.proofs.Together.Readers.{seat, words_less}
use Rattle.protocol.proofs.Together.Roles.{Apart, RolesOf, Roles, apart}
use Rattle.protocol.proofs.Together.Good.{doings, Good, good_pair, good_table, good_zero, good_inside}
use Rattle.protocol.proofs.Together.Calls.{is_busy, the_fine, the_fit, the_locks, idle_busy}
use Rattle.protocol.proofs.Together.Recorded.{inside, roles_view}
use Rattle.protocol.proofs.Together.Judged.{view_held, reads_view}

-- ROOM FOR A READER: a worker that wants a read lock does not hold that word, and at most 15 others do

abbrev pub Room : List ℕ → Action → Type 0
Room ws (Visit at prev before side up) = Unit {0}
Room ws (Look this prev side before up) = Unit {0}
Room ws (Lock slot which write state links) = crowded write (lock_of ws slot which) ≡ false
Room ws (Mark slot to) = Unit {0}
Room ws (Link slot side to) = Unit {0}
Room ws (Take prev side) = Unit {0}
Room ws End = Unit {0}
Room ws Beyond = ⊥

state_edge : (s : Bool) → State ≡ Edge s → ⊥
state_edge true e = let z = ap lock_f e in omega arith
state_edge false e = let z = ap lock_f e in omega arith

edge_not : (s : Bool) → Edge s ≡ Edge (not s) → ⊥
edge_not true e = let z = ap lock_f e in omega arith
edge_not false e = let z = ap lock_f e in omega arith

one_apart : (x : ℕ) (l : Which) (y : ℕ) (m : Which) (b : Bool) → ((y ≡ x) × (m ≡ l) → ⊥) → units x l (hold y m b ∷ []) ≡ 0
unfolding units
one_apart x l y m b n = omega (arith, unit_other x l (hold y m b) n)

two_apart : (x : ℕ) (l : Which) (y : ℕ) (m : Which) (b : Bool) (z : ℕ) (o : Which) (c : Bool) → ((y ≡ x) × (m ≡ l) → ⊥) → ((z ≡ x) × (o ≡ l) → ⊥)
    → units x l (hold y m b ∷ hold z o c ∷ []) ≡ 0
unfolding units
two_apart x l y m b z o c n k = omega (arith, unit_other x l (hold y m b) n, unit_other x l (hold z o c) k)

module _ (ws : List ℕ) (j : Kind) (hs : List Held) (least : (x : ℕ) (l : Which) → units x l hs ≡ 0 → lock_of ws x l < 32) where
  reader : (x : ℕ) (l : Which) → units x l hs ≡ 0 → crowded false (lock_of ws x l) ≡ false
  unfolding crowded
  reader x l e = lt-leb 32 (lock_of ws x l) (least x l e)

module _ (ws : List ℕ) (j : Kind) where
  pub room_view : (p : Phase) → ((x : ℕ) (l : Which) → units x l (held_in (view p)) ≡ 0 → lock_of ws x l < 32) → Fits j (view p) → Apart (view p) → Room ws (action_of p)
  unfolding locks plan action_at crowded
  room_view (Walk at prev before side up) least f x = tt
  room_view (Leaf t p s b up) least f x = tt
  room_view (OnRouting t zero) least f x = refl
  room_view (OnRouting t (suc zero)) least f x = tt
  room_view (OnRouting t (suc (suc zero))) least f x = tt
  room_view (OnRouting t (suc (suc (suc n)))) least f x = absurd (omega (arith, f.1))
  room_view (New p s zero) least f x = refl
  room_view (New p s (suc zero)) least f x = reader ws j _ least p State (one_apart p State p (Edge s) true (λ z. state_edge s (sym z.1)))
  room_view (New p s (suc (suc zero))) least f x = tt
  room_view (New p s (suc (suc (suc zero)))) least f x = tt
  room_view (New p s (suc (suc (suc (suc n))))) least f x = absurd (omega (arith, f.1))
  room_view (Two t zero) least f x = refl
  room_view (Two t (suc zero)) least f x = tt
  room_view (Two t (suc (suc zero))) least f x = tt
  room_view (Two t (suc (suc (suc n)))) least f x = absurd (omega (arith, f.1))
  room_view (One t p s c cs zero) least f x = reader ws j _ least t (Edge cs) (units_none t (Edge cs))
  room_view (One t p s c cs (suc zero)) least f x = refl
  room_view (One t p s c cs (suc (suc zero))) least f x = refl
  room_view (One t p s c cs (suc (suc (suc zero)))) least f x = tt
  room_view (One t p s c cs (suc (suc (suc (suc zero))))) least f x = tt
  room_view (One t p s c cs (suc (suc (suc (suc (suc zero)))))) least f x = tt
  room_view (One t p s c cs (suc (suc (suc (suc (suc (suc n))))))) least f x = absurd (omega (arith, f.1))
  room_view (UnderData t p s zero) least f x = refl
  room_view (UnderData t p s (suc zero)) least f x = refl
  room_view (UnderData t p s (suc (suc zero))) least f x = reader ws j _ least p State (two_apart p State p (Edge s) true t State true (λ z. state_edge s (sym z.1)) (λ z. x.1 (sym z.0)))
  room_view (UnderData t p s (suc (suc (suc zero)))) least f x = tt
  room_view (UnderData t p s (suc (suc (suc (suc zero))))) least f x = tt
  room_view (UnderData t p s (suc (suc (suc (suc (suc zero)))))) least f x = tt
  room_view (UnderData t p s (suc (suc (suc (suc (suc (suc n))))))) least f x = absurd (omega (arith, f.1))
  room_view (UnderRouting t p s a up o zero) least f x = refl
  room_view (UnderRouting t p s a up o (suc zero)) least f x = refl
  room_view (UnderRouting t p s a up o (suc (suc zero))) least f x = reader ws j _ least p (Edge (not s)) (two_apart p (Edge (not s)) p (Edge s) true t State true (λ z. edge_not s z.1) (λ z. state_edge (not s) z.1))
  room_view (UnderRouting t p s a up o (suc (suc (suc zero)))) least f x = refl
  room_view (UnderRouting t p s a up o (suc (suc (suc (suc zero))))) least f x = refl
  room_view (UnderRouting t p s a up o (suc (suc (suc (suc (suc zero)))))) least f x = tt
  room_view (UnderRouting t p s a up o (suc (suc (suc (suc (suc (suc zero))))))) least f x = tt
  room_view (UnderRouting t p s a up o (suc (suc (suc (suc (suc (suc (suc zero)))))))) least f x = tt
  room_view (UnderRouting t p s a up o (suc (suc (suc (suc (suc (suc (suc (suc zero))))))))) least f x = tt
  room_view (UnderRouting t p s a up o (suc (suc (suc (suc (suc (suc (suc (suc (suc n)))))))))) least f x = absurd (omega (arith, f.1))

-- NO ACTION IS REFUSED
pub unrefused : (w : Worker) (ws : List ℕ) (kind : Kind) (key : ℕ) (p : Phase) (n : ℕ) (next : Phase) (a : Action) → all_held ws p n ≡ true → Room ws a
    → (lowest_fit ws ≢ 0 → zero_pair ws (lowest_fit ws) ≡ true) → (m : ℕ) → (settle w (act_step ws kind key p n next a)).says ≡ refuses m → ⊥
unfolding act_step settled
unrefused w ws kind key p n next (Visit at prev before side up) h r z m e =
    ⊎_elim (λ v. gave (sym v ∙ e)) (⊎_elim (λ v. gave (sym v ∙ e)) (λ v. gave (sym v ∙ e))) (visit_may w ws kind key at prev before side up)
unrefused w ws kind key p n next (Look this prev side before up) h r z m e =
    gave (sym (act_may w ws kind key p n next (Look this prev side before up)) ∙ e)
unrefused w ws kind key p n next (Lock slot which write state links) h r z m e =
    lock_ends (λ (d : Did). (settle w d).says ≡ refuses m → ⊥) ws p n next slot which write state links
    (λ g c q. gave q) (λ g c q. true≢false (sym c ∙ r)) (λ g o q. gave q) (λ g o q. true≢false (sym h ∙ o)) e
unrefused w ws kind key p n next (Mark slot to) h r z m e = gave e
unrefused w ws kind key p n next (Link slot side to) h r z m e = gave e
unrefused w ws kind key p n next (Take prev side) h r z m e =
    take_ends (λ (d : Did). (settle w d).says ≡ refuses m → ⊥) ws key p n next prev side
    (λ f o q. gave q) (λ f o q. gave q) (λ f o q. true≢false (sym h ∙ o)) (λ f o q. true≢false (sym (z f) ∙ o)) e
unrefused w ws kind key p n next End h r z m e =
    give_up_ends (λ (d : Did). (settle w d).says ≡ refuses m → ⊥) ws p n (Ends Yes) (λ o q. gave q) (λ o q. true≢false (sym h ∙ o)) e
unrefused w ws kind key p n next Beyond h r z m e = r

module _ {ws : List ℕ} {rs : List Worker} {O : ℕ → ℕ → Type 0} {T : ℕ → ℕ} (g : Good ws rs O T) (a : ℕ) (la : a < length rs) where
  abbrev w : Worker
  w = get_or rs a idle_worker

  bare : (i : ℕ) (l : Which) → state_of ws i ≡ 0 → lock_of ws i l ≡ 0
  bare i l e = zero_field ws i (lock_f l) (good_zero g i e)

  low : a < length (doings rs)
  low = rw (length-map rs stages.doing) la

  module _ (kind : Kind) (e : w.work ≡ Busy kind) where
    the_roles : Roles (slots_of ws) (view w.phase)
    the_roles = subst (RolesOf (slots_of ws)) (is_busy g a la kind e) (g.inv.roles a low)

    the_apart : Apart (view w.phase)
    the_apart = let f = the_fine g a la kind e in apart (tab_of ws) g.inv.rho (slots_of ws) kind w.key (view w.phase) f.0 f.1 the_roles

    the_record : record_fine ws kind w.key w.phase ≡ true
    unfolding record_fine
    the_record =
        let f = the_fine g a la kind e in
        let b : busy_of ws ≢ 0 = λ z. omega (arith, z, g.count, sum_at seat (doings rs) a stages.idle low, ap seat (is_busy g a la kind e)) in
        rw (
          g.keys a la kind e,
          roles_view (slots_of ws) kind w.phase (the_fit g a la kind e) the_apart
              (inside (tab_of ws) g.inv.rho (slots_of ws) (good_inside g) kind w.key (view w.phase) f.1 the_roles),
          ne_eqb (busy_of ws) 0 b,
        )

    the_reads : reads_fine ws (action_of w.phase) ≡ true
    the_reads = reads_view ws g.inv.shape (good_pair g) kind w.key w.phase (the_fit g a la kind e) (the_fine g a la kind e).1

    the_held : all_held ws w.phase (done_of w.phase) ≡ true
    the_held =
        view_held ws (good_pair g) bare kind w.phase (the_fit g a la kind e) (the_locks g a la kind e)
        (λ h m t. g.inv.locked.fair a h low (subst (λ (d : Doing). Among (held d) h) (sym (is_busy g a la kind e)) m) t)

    the_room : Room ws (action_of w.phase)
    the_room =
        room_view ws kind w.phase
        (λ x l z. omega (
          arith,
          g.count,
          g.most,
          words_less g.inv.locked x l a low (ap (λ (d : Doing). units x l (held d)) (is_busy g a la kind e) ∙ z) (ap seat (is_busy g a la kind e)),
        ))
        (the_fit g a la kind e) the_apart

  take_zero : lowest_fit ws ≢ 0 → zero_pair ws (lowest_fit ws) ≡ true
  take_zero n = good_zero g (lowest_fit ws) (fit_free ws (lowest_fit ws) (lowest_fit_lem ws n).0)

  -- A STEP OF A BUSY RECORD IS NOT REFUSED
  pub step_unrefused : (kind : Kind) → w.work ≡ Busy kind → (m : ℕ) → (step_of ws w).says ≡ refuses m → ⊥
  step_unrefused kind e m =
      step_ends (λ (c : Call Verdict). c.says ≡ refuses m → ⊥) ws w
      (λ t q. true≢false (sym (good_table g) ∙ t))
      (λ t i q. idle_busy (sym i ∙ e))
      (λ kind' t i f q. true≢false (sym (both kind' i) ∙ f))
      (λ kind' t i f r q. unrefused w ws kind' w.key w.phase _ _ (action_of w.phase) (the_held kind' i) (the_room kind' i) take_zero m q)
    where
      both : (kind' : Kind) → w.work ≡ Busy kind' → (record_fine ws kind' w.key w.phase && reads_fine ws (action_of w.phase)) ≡ true
      both kind' i = rw (the_record kind' i, the_reads kind' i)

  -- A WITHDRAW OF A BUSY RECORD, only after its first store
  pub withdraw_only_7 : (kind : Kind) → w.work ≡ Busy kind → (m : ℕ) → (withdraw_of ws w).says ≡ refuses m → m ≡ 7
  withdraw_only_7 kind e m =
      withdraw_ends (λ (c : Call (Unit {0})). c.says ≡ refuses m → m ≡ 7) ws w
      (λ t q. absurd (true≢false (sym (good_table g) ∙ t)))
      (λ t i q. absurd (idle_busy (sym i ∙ e)))
      (λ kind' t i f q. absurd (true≢false (sym (the_record kind' i) ∙ f)))
      (λ kind' t i f h q. absurd (true≢false (sym (the_held kind' i) ∙ h)))
      (λ kind' t i f h s q. sym (ap refusal_of q))
      (λ kind' t i f h s q. absurd (gave q))

-- A START OF AN IDLE RECORD, only for its key or the seats
pub start_only_3_4 : (ws : List ℕ) (w : Worker) → table_fine ws ≡ true → w.work ≡ Idle → (kind : Kind) (key m : ℕ) → (start_of ws w kind key).says ≡ refuses m
    → (m ≡ 3) ⊎ (m ≡ 4)
start_only_3_4 ws w fine e kind key m =
    start_ends (λ (c : Call (Unit {0})). c.says ≡ refuses m → (m ≡ 3) ⊎ (m ≡ 4)) ws w kind key
    (λ t q. absurd (true≢false (sym fine ∙ t)))
    (λ t i q. absurd (true≢false (sym (ap idle e) ∙ i)))
    (λ t i l q. inl (sym (ap refusal_of q)))
    (λ t i l b q. inr (sym (ap refusal_of q)))
    (λ t i l b q. absurd (gave q))
