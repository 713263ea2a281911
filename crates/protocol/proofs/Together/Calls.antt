-- START, STEP AND WITHDRAW OF A GOOD MOMENT: each is a move, with the seat taken or given up, or is refused and changes nothing.
-- Assumes nothing.
use mathlib.Core.Path.{◌≡◌, refl, sym, ap, ◌∙◌, subst}
use mathlib.Core.Bool.{Bool, true, false, true≢false}
use mathlib.Core.List.{List}
use mathlib.Core.Logic.{◌≢◌}
use Prim.Native.Nat.{ℕ, zero, suc, ◌+◌, ◌-◌, ◌≤◌, ◌<◌}
use native.Mathlib.Omega.{arith}
use lib.ListN.{length, get_or, length-map}
use borrow.Author.Tests.{eqb-false, not-true}
use Rattle.refusal.specs.Said.{gives}
use Rattle.moment.specs.Key.{legal_of, in_range, fields_of}
use Rattle.moment.proofs.Packing.{legal_is}
use Rattle.moment.proofs.Tests.{tests}
use Rattle.table.specs.Pair.{busy_f, state_of, lock_of, busy_of, slots_of}
use Rattle.table.specs.Rules.{all_ones, size_fine}
use Rattle.table.specs.declared.Which.{Which}
use Rattle.table.proofs.PairLaws.{Slot}
use Rattle.table.proofs.ChangeLaws.{Only}
use Rattle.tree.specs.Reach.{Tab, tab_of}
use Rattle.protocol.specs.Says as says
use Rattle.protocol.specs.Says.{Verdict, going, full}
use Rattle.protocol.specs.Plan.{plan, action_at, done_of}
use Rattle.protocol.specs.Record.{record_fine}
use Rattle.protocol.specs.Locks.{released}
use Rattle.protocol.specs.Step.{Call, refused, idle_worker, leave, settled, step_of}
use Rattle.protocol.specs.Calls.{seated, start_of, stored, withdraw_of}
use Rattle.protocol.specs.declared.Kind.{Kind}
use Rattle.protocol.specs.declared.Work.{Work}
use Rattle.protocol.specs.declared.Work.TheVariants.{Idle, Busy}
use Rattle.protocol.specs.declared.Worker.{Worker}
use Rattle.protocol.specs.declared.Phase.{Phase}
use Rattle.protocol.specs.declared.Phase.TheVariants.{Walk, OnRouting, New, Two, One, Leaf, UnderData, UnderRouting}
use Rattle.protocol.specs.declared.Answer.TheVariants.{Going, Yes, No, Full, Refused}
use Rattle.protocol.specs.declared.Outcome.{Outcome}
use Rattle.protocol.specs.declared.Outcome.TheVariants.{Goes, Ends}
use Rattle.std.specs.Prelude.{Result, Ok, Err}
use Rattle.refusal.specs.declared.Refusal.{Refusal}
use Rattle.refusal.specs.Said.{number}
use Rattle.protocol.proofs.PlanLaws.{record_roles}
use Rattle.protocol.proofs.StepLaws.{step_ends}
use Rattle.protocol.proofs.CallLaws.{start_ends, withdraw_ends}
use Rattle.protocol.proofs.StoreLaws.{plan_fits, leave_only, seat_only}
use Rattle.protocol.proofs.Words.{seat_tab, seat_locks}
use Rattle.protocol.proofs.Together.Sum.{sum_at}
use Rattle.protocol.proofs.Together.Locks.{units}
use Rattle.protocol.proofs.Together.Stages.{Doing, idle, busy, view, doing_by, doing, held, held_in, Fine, Fits, Fit}
use Rattle.protocol.proofs.Together.Machine as machine
use Rattle.protocol.proofs.Together.Machine.{Answer, said, done, Before, Move, start, ends}
use Rattle.protocol.proofs.Together.Readers.{seat}
use Rattle.protocol.proofs.Together.Clean.{Clean, clean_busy}
use Rattle.protocol.proofs.Together.Holding.{gives_up}
use Rattle.protocol.proofs.Together.Steps.{Kept, MoveTo, Acts, up_tab, up_kept}
use Rattle.protocol.proofs.Together.Acting.{act_acts}
use Rattle.protocol.proofs.Together.Good.{doings, doing_at, LegalKey, Good}

-- a record moves on
pub record Moved (ws : List ℕ) (w v : Worker) (vs : List ℕ) (o : Answer) : Type 0 where
  pub move : MoveTo ws (doing w) vs (doing v) o
  pub clean : Clean vs
  pub seats : busy_of vs + seat (doing w) ≡ busy_of ws + seat (doing v)
  pub most : busy_of vs ≤ 16
  pub legal : LegalKey w → LegalKey v

pub data StepIs (ws : List ℕ) (w : Worker) (c : Call Verdict) : Type 0 where
  refusing : (n : ℕ) → c ≡ refused n w ws → StepIs ws w c
  moving : (v : Verdict) → c.says ≡ gives v → Moved ws w c.worker c.words (said v) → StepIs ws w c

pub data CallIs (ws : List ℕ) (w : Worker) (c : Call (Unit {0})) : Type 0 where
  refusing : (n : ℕ) → c ≡ refused n w ws → CallIs ws w c
  moving : Moved ws w c.worker c.words done → CallIs ws w c

-- a legal key is below the root's
ones_number : in_range (fields_of all_ones) ≡ true → ⊥
unfolding in_range fields_of
ones_number e = let p = simp tests at e in let q = p.1 in omega arith

pub legal_low : (k : ℕ) → legal_of k ≡ true → k < all_ones
legal_low k e =
    let l = (legal_is k).0 e in
    let d : k ≢ all_ones = λ z. ones_number (rw z at l.1) in
    let b = l.0 in
    omega arith

-- THE SEAT is neither table nor locks
slot_zero : (ws : List ℕ) → Clean ws → Slot ws 0
unfolding size_fine
slot_zero ws c = let p = simp tests at c.size in let q = p.0.1 in omega arith

re_seat : (ws vs us : List ℕ) (x : ℕ) {u w : Doing} {o : Answer} → Only busy_f 0 x vs us → MoveTo ws u vs w o → MoveTo ws u us w o
re_seat ws vs us x {u} {w} {o} b m =
    subst (λ (M : ℕ → Which → ℕ). Move (tab_of ws) (lock_of ws) u (tab_of us) M w o) (λ t i l. sym (seat_locks x vs us b i l) t)
    (subst (λ (B : Tab). Move (tab_of ws) (lock_of ws) u B (lock_of vs) w o) (sym (seat_tab x vs us b)) m)

-- nothing is stored yet
before_view : (j : Kind) (p : Phase) → Fits j (view p) → stored p (done_of p) ≡ false → Before (view p)
unfolding stored action_at plan
before_view j (Walk at prev before side up) f e = tt
before_view j (Leaf t p s b up) f e = tt
before_view j (OnRouting t zero) f e = tt
before_view j (OnRouting t (suc zero)) f e = tt
before_view j (OnRouting t (suc (suc zero))) f e = absurd (true≢false e)
before_view j (OnRouting t (suc (suc (suc n)))) f e = tt
before_view j (New p s zero) f e = tt
before_view j (New p s (suc zero)) f e = tt
before_view j (New p s (suc (suc zero))) f e = tt
before_view j (New p s (suc (suc (suc zero)))) f e = absurd (true≢false e)
before_view j (New p s (suc (suc (suc (suc n))))) f e = tt
before_view j (Two t zero) f e = tt
before_view j (Two t (suc zero)) f e = tt
before_view j (Two t (suc (suc zero))) f e = absurd (true≢false e)
before_view j (Two t (suc (suc (suc n)))) f e = tt
before_view j (One t p s c cs zero) f e = tt
before_view j (One t p s c cs (suc zero)) f e = tt
before_view j (One t p s c cs (suc (suc zero))) f e = tt
before_view j (One t p s c cs (suc (suc (suc zero)))) f e = tt
before_view j (One t p s c cs (suc (suc (suc (suc zero))))) f e = absurd (true≢false e)
before_view j (One t p s c cs (suc (suc (suc (suc (suc zero)))))) f e = absurd (true≢false e)
before_view j (One t p s c cs (suc (suc (suc (suc (suc (suc n))))))) f e = tt
before_view j (UnderData t p s zero) f e = tt
before_view j (UnderData t p s (suc zero)) f e = tt
before_view j (UnderData t p s (suc (suc zero))) f e = tt
before_view j (UnderData t p s (suc (suc (suc zero)))) f e = tt
before_view j (UnderData t p s (suc (suc (suc (suc zero))))) f e = absurd (true≢false e)
before_view j (UnderData t p s (suc (suc (suc (suc (suc zero)))))) f e = absurd (true≢false e)
before_view j (UnderData t p s (suc (suc (suc (suc (suc (suc n))))))) f e = tt
before_view j (UnderRouting t p s a up o zero) f e = tt
before_view j (UnderRouting t p s a up o (suc zero)) f e = tt
before_view j (UnderRouting t p s a up o (suc (suc zero))) f e = tt
before_view j (UnderRouting t p s a up o (suc (suc (suc zero)))) f e = tt
before_view j (UnderRouting t p s a up o (suc (suc (suc (suc zero))))) f e = tt
before_view j (UnderRouting t p s a up o (suc (suc (suc (suc (suc zero)))))) f e = tt
before_view j (UnderRouting t p s a up o (suc (suc (suc (suc (suc (suc zero))))))) f e = absurd (true≢false e)
before_view j (UnderRouting t p s a up o (suc (suc (suc (suc (suc (suc (suc zero)))))))) f e = absurd (true≢false e)
before_view j (UnderRouting t p s a up o (suc (suc (suc (suc (suc (suc (suc (suc zero))))))))) f e = absurd (true≢false e)
before_view j (UnderRouting t p s a up o (suc (suc (suc (suc (suc (suc (suc (suc (suc n)))))))))) f e = tt

abbrev is_idle : Work → Bool
is_idle Idle = true
is_idle (Busy kind) = false

pub idle_busy : {kind : Kind} → Idle ≡ Busy kind → ⊥
idle_busy e = true≢false (ap is_idle e)

-- the root is not free: it has a key
root_some : (us : List ℕ) → Clean us → state_of us 0 ≢ 0
root_some us c e = let z = c.empty 0 0 (omega arith) e in let o = c.ones in omega arith

leave_clean : (us : List ℕ) → state_of us 0 ≢ 0 → Clean us → Clean (leave us)
unfolding leave
leave_clean us n c = clean_busy us (busy_of us - 1) n c

seat_clean : (us : List ℕ) → state_of us 0 ≢ 0 → Clean us → Clean (seated us)
unfolding seated
seat_clean us n c = clean_busy us (busy_of us + 1) n c

module _ {ws : List ℕ} {rs : List Worker} {O : ℕ → ℕ → Type 0} {T : ℕ → ℕ} (g : Good ws rs O T) (a : ℕ) (la : a < length rs) where
  abbrev w : Worker
  w = get_or rs a idle_worker

  pub is_busy : (kind : Kind) → w.work ≡ Busy kind → get_or (doings rs) a idle ≡ busy kind w.key (view w.phase)
  is_busy kind e = doing_at rs a ∙ ap (λ (k : Work). doing_by k w.key w.phase) e

  -- what is known of a busy record
  pub the_fine : (kind : Kind) → w.work ≡ Busy kind → Fine (tab_of ws) g.inv.rho (O a) (busy kind w.key (view w.phase))
  the_fine kind e = subst (Fine (tab_of ws) g.inv.rho (O a)) (is_busy kind e) (g.inv.fine a (rw (length-map rs doing) la))

  pub the_fit : (kind : Kind) → w.work ≡ Busy kind → Fits kind (view w.phase)
  the_fit kind e = subst Fit (is_busy kind e) (g.inv.fit a (rw (length-map rs doing) la))

  pub the_locks : (kind : Kind) → w.work ≡ Busy kind → (x : ℕ) (l : Which) → units x l (held_in (view w.phase)) ≤ lock_of ws x l
  the_locks kind e x l =
      omega (
        arith,
        g.inv.locked.counted x l,
        sum_at (λ v. units x l (held v)) (doings rs) a idle (rw (length-map rs doing) la),
        ap (λ (v : Doing). units x l (held v)) (is_busy kind e),
      )

  -- STEP

  -- a work that ends gives up its seat
  ended : (kind : Kind) → w.work ≡ Busy kind → busy_of ws ≢ 0 → (v : Answer) (vs : List ℕ)
      → MoveTo ws (busy kind w.key (view w.phase)) vs idle v → Kept ws vs → Moved ws w idle_worker (leave vs) v
  ended kind e b v vs m k =
      let o = leave_only vs (slot_zero vs k.clean) in
      record {
        move = rw e (re_seat ws vs (leave vs) (busy_of vs - 1) o m);
        clean = leave_clean vs (root_some vs k.clean) k.clean;
        seats = rw e (omega (arith, o.there, k.busy));
        most = omega (arith, o.there, k.busy, g.most);
        legal = λ l kind' f. absurd (idle_busy f);
      }

  settle_is : (kind : Kind) → w.work ≡ Busy kind → busy_of ws ≢ 0 → (o : Result Outcome Refusal) (vs : List ℕ)
      → Acts ws kind w.key (view w.phase) o vs → StepIs ws w (settled w o vs)
  unfolding settled
  settle_is kind e b (Ok (Goes p)) vs (m, k) = moving going refl (record {
    move = rw e m;
    clean = k.clean;
    seats = rw e (ap (λ (n : ℕ). n + 1) k.busy);
    most = omega (arith, k.busy, g.most);
    legal = λ l. l;
  })
  settle_is kind e b (Ok (Ends Going)) vs x = absurd x
  settle_is kind e b (Ok (Ends Yes)) vs (m, k) = moving says.yes refl (ended kind e b (said says.yes) vs m k)
  settle_is kind e b (Ok (Ends No)) vs (m, k) = moving says.no refl (ended kind e b (said says.no) vs m k)
  settle_is kind e b (Ok (Ends Full)) vs (m, k) = moving full refl (ended kind e b (said full) vs m k)
  settle_is kind e b (Ok (Ends (Refused n))) vs x = absurd x
  settle_is kind e b (Err f) vs q = refusing (number f) (ap (λ (us : List ℕ). refused {A = Verdict} (number f) w us) q)

  busy_some : (kind : Kind) (key : ℕ) (p : Phase) → record_fine ws kind key p ≡ true → busy_of ws ≢ 0
  unfolding record_fine
  busy_some kind key p e = let h = simp tests at e in eqb-false _ _ (not-true _ h.1)

  pub step_is : StepIs ws w (step_of ws w)
  step_is =
      step_ends (StepIs ws w) ws w (λ t. refusing 1 refl) (λ t e. refusing 2 refl) (λ kind t e f. refusing 6 refl)
      (λ kind t e f r. settle_is kind e (busy_some kind w.key w.phase f) _ _
      (act_acts ws g.inv.shape t g.clean kind w.key (g.keys a la kind e) w.phase
      (the_fit kind e) (the_fine kind e).1 (the_locks kind e) r
      (plan_fits (slots_of ws) kind w.phase (record_roles ws kind w.key w.phase f) (done_of w.phase))))

  -- START
  pub start_is : (kind : Kind) (key : ℕ) → CallIs ws w (start_of ws w kind key)
  start_is kind key =
      start_ends (CallIs ws w) ws w kind key
      (λ t. refusing 1 refl) (λ t i. refusing 2 refl) (λ t i l. refusing 3 refl) (λ t i l b. refusing 4 refl)
      (λ t i l b.
      let o = seat_only ws (slot_zero ws g.clean) b in
      moving (record {
        move = rw i (re_seat ws ws (seated ws) (busy_of ws + 1) o (start kind key (rw g.clean.ones (legal_low key l))));
        clean = seat_clean ws (root_some ws g.clean) g.clean;
        seats = rw i (omega (arith, o.there));
        most = omega (arith, o.there);
        legal = λ q kind' e. l;
      }))

  -- WITHDRAW
  pub withdraw_is : CallIs ws w (withdraw_of ws w)
  withdraw_is =
      withdraw_ends (CallIs ws w) ws w
      (λ t. refusing 1 refl) (λ t i. refusing 2 refl) (λ kind t i f. refusing 6 refl) (λ kind t i f h. refusing 6 refl)
      (λ kind t i f h s. refusing 7 refl)
      (λ kind t e f h s.
      let p = w.phase in
      let vs = released ws p (done_of p) in
      moving (ended kind e (busy_some kind w.key p f) done vs
      (subst (λ (B : Tab). Move (tab_of ws) (lock_of ws) (busy kind w.key (view p)) B (lock_of vs) idle done)
      (sym (up_tab ws g.inv.shape t g.clean p (done_of p)))
      (ends (lock_of vs) (machine.leave (before_view kind p (the_fit kind e) s)) (gives_up ws kind p (the_fit kind e) (the_locks kind e))))
      (up_kept ws g.inv.shape t g.clean p (done_of p) h)))
