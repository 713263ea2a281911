-- THE WORK IN HAND IS THE ONE THAT ITS START BEGAN: a record turns from idle to busy by a start of it alone, and keeps kind and key
-- while it is busy.
-- Assumes nothing.
use mathlib.Core.Path.{◌≡◌, refl, sym, ap, ◌∙◌, subst}
use mathlib.Core.Bool.{true, false}
use mathlib.Core.Logic.{◌⊎◌, inl, inr}
use Prim.Native.Nat.{ℕ, zero, suc, ◌≤◌, ◌<◌}
use native.Mathlib.Omega.{arith}
use native.Mathlib.Decide.{ℕ_discrete}
use lib.Dec.{ltb}
use lib.ListN.{length}
use lib.Seq.{get_or-set_same, get_or-set_other}
use borrow.Author.Tests.{ltb-true}
use Rattle.moment.proofs.Tests.{by_cases}
use Rattle.protocol.specs.Says.{Verdict}
use Rattle.protocol.specs.Step.{Call, idle_worker, step_of}
use Rattle.protocol.specs.Calls.{idle, start_of, withdraw_of}
use Rattle.protocol.specs.Together.{Asked, start, step, withdraw, sweep, list, first, check, System, record_at, idle_at, placed, on, after, moment, worker_at, born}
use Rattle.protocol.specs.TogetherPromise.{AllIdle}
use Rattle.protocol.specs.declared.Kind.{Kind}
use Rattle.protocol.specs.declared.Kind.TheVariants.{Lookup}
use Rattle.protocol.specs.declared.Work.{Work}
use Rattle.protocol.specs.declared.Work.TheVariants.{Idle, Busy}
use Rattle.protocol.specs.declared.Worker.{Worker}
use Rattle.protocol.proofs.StepLaws.{Fair, refusing, going_on, ending, step_fair}
use Rattle.protocol.proofs.CallLaws.{start_ends, withdraw_ends}
use Rattle.protocol.proofs.Together.Calls.{idle_busy}
use Rattle.protocol.proofs.Together.Run.{busy_not}
use Rattle.protocol.proofs.Together.History.{idle_first, starts_with}

abbrev kind_of : Work → Kind
kind_of Idle = Lookup
kind_of (Busy kind) = kind

-- ONE CALL: record a is x after it
module _ (s : System) (q : Asked) (a : ℕ) where
  abbrev From : Worker → Type 0
  From x = (kind : Kind) → x.work ≡ Busy kind
      → ((q ≡ start a kind x.key) × (idle_at s a ≡ true)) ⊎ (((record_at s a).work ≡ Busy kind) × (x.key ≡ (record_at s a).key))

  stays : From (record_at s a)
  stays kind e = inr (e, refl)

  ends : From idle_worker
  ends kind e = absurd (idle_busy e)

  -- a call on record b, of which record b comes so
  on_one : {A : Type 0} (b : ℕ) (c : Call A) → (b ≡ a → From c.worker) → b < length s.workers → From (record_at (placed s b c) a)
  on_one b c h l = go (ℕ_discrete a b)
    where
      go : Dec (a ≡ b) → From (record_at (placed s b c) a)
      go (yes e) = subst From (sym (ap (λ (i : ℕ). record_at (placed s b c) i) e ∙ get_or-set_same s.workers b c.worker idle_worker l)) (h (sym e))
      go (no e) = subst From (sym (get_or-set_other s.workers b a c.worker idle_worker e)) stays

  on_call : {A : Type 0} (b : ℕ) (c : Call A) → (b ≡ a → From c.worker) → From (record_at (on s b c) a)
  on_call b c h =
      by_cases (λ (t : System). From (record_at t a)) (ltb b (length s.workers))
      (λ f. on_one b c h (ltb-true b (length s.workers) f)) (λ f. stays)

  step_from : From (step_of s.words (record_at s a)).worker
  step_from = go (step_of s.words (record_at s a)) (step_fair s.words (record_at s a))
    where
      go : (c : Call Verdict) → Fair (record_at s a) s.words c → From c.worker
      go c (refusing n f) = subst From (sym (ap (λ (x : Call Verdict). x.worker) f)) stays
      go c (going_on p vs f) = subst From (sym (ap (λ (x : Call Verdict). x.worker) f)) (λ kind e. inr (e, refl))
      go c (ending v vs n f) = subst From (sym (ap (λ (x : Call Verdict). x.worker) f)) ends

  withdraw_from : From (withdraw_of s.words (record_at s a)).worker
  withdraw_from =
      withdraw_ends (λ (c : Call (Unit {0})). From c.worker) s.words (record_at s a)
      (λ t. stays) (λ t i. stays) (λ kind t i f. stays) (λ kind t i f h. stays) (λ kind t i f h u. stays) (λ kind t i f h u. ends)

start_from : (s : System) (a : ℕ) (kind : Kind) (key : ℕ) → From s (start a kind key) a (start_of s.words (record_at s a) kind key).worker
start_from s a kind key =
    start_ends (λ (c : Call (Unit {0})). From s (start a kind key) a c.worker) s.words (record_at s a) kind key
    (λ t. stays s (start a kind key) a) (λ t i. stays s (start a kind key) a) (λ t i l. stays s (start a kind key) a) (λ t i l b. stays s (start a kind key) a)
    (λ t i l b kind' e. inl (ap (λ (k : Kind). start a k key) (ap kind_of e), ap idle i))

call_from : (s : System) (q : Asked) (a : ℕ) → From s q a (record_at (after s q) a)
call_from s (start b kind key) a =
    on_call s (start b kind key) a b (start_of s.words (record_at s b) kind key)
    (λ e. subst (λ (i : ℕ). From s (start b kind key) i (start_of s.words (record_at s b) kind key).worker) e (start_from s b kind key))
call_from s (step b) a =
    on_call s (step b) a b (step_of s.words (record_at s b))
    (λ e. subst (λ (i : ℕ). From s (step b) i (step_of s.words (record_at s b)).worker) e (step_from s (step b) b))
call_from s (withdraw b) a =
    on_call s (withdraw b) a b (withdraw_of s.words (record_at s b))
    (λ e. subst (λ (i : ℕ). From s (withdraw b) i (withdraw_of s.words (record_at s b)).worker) e (withdraw_from s (withdraw b) b))
call_from s sweep a = stays s sweep a
call_from s (list low high out) a = stays s (list low high out) a
call_from s (first from) a = stays s (first from) a
call_from s check a = stays s check a

-- A RUN
abbrev pub Works : (ℕ → Asked) → System → ℕ → ℕ → Kind → ℕ → Type 0
Works asked s i a kind key =
    (j : ℕ) × (j < i) × (born asked s i a ≡ suc j) × (asked j ≡ start a kind key)
    × ((m : ℕ) → suc j ≤ m → m ≤ i → ((worker_at asked s m a).work ≡ Busy kind) × ((worker_at asked s m a).key ≡ key))

module _ (asked : ℕ → Asked) (s : System) (rest : AllIdle s.workers) where
  begins_now : (i a : ℕ) → idle_at (moment asked s i) a ≡ true → idle_at (moment asked s (suc i)) a ≡ false → born asked s (suc i) a ≡ suc i
  begins_now i a e f = rw (starts_with (idle_at (moment asked s i) a) (idle_at (moment asked s (suc i)) a) e f)

  goes_on : (i a : ℕ) → idle_at (moment asked s i) a ≡ false → born asked s (suc i) a ≡ born asked s i a
  goes_on i a e = rw (busy_not (idle_at (moment asked s i) a) (idle_at (moment asked s (suc i)) a) e)

  pub works_on : (i a : ℕ) (kind : Kind) → (worker_at asked s i a).work ≡ Busy kind → Works asked s i a kind (worker_at asked s i a).key
  works_on zero a kind e = absurd (idle_first s rest a (ap idle e))
  works_on (suc i) a kind e = go (call_from (moment asked s i) (asked i) a kind e) (works_on i a kind)
    where
      k : ℕ
      k = (worker_at asked s (suc i) a).key

      go : ((asked i ≡ start a kind k) × (idle_at (moment asked s i) a ≡ true))
          ⊎ (((worker_at asked s i a).work ≡ Busy kind) × (k ≡ (worker_at asked s i a).key))
          → ((worker_at asked s i a).work ≡ Busy kind → Works asked s i a kind (worker_at asked s i a).key) → Works asked s (suc i) a kind k
      go (inl (q, b)) ih = (i, omega arith, begins_now i a b (ap idle e), q, λ m l h. last m (omega arith))
        where
          last : (m : ℕ) → m ≡ suc i → ((worker_at asked s m a).work ≡ Busy kind) × ((worker_at asked s m a).key ≡ k)
          last m z = (ap (λ (n : ℕ). (worker_at asked s n a).work) z ∙ e, ap (λ (n : ℕ). (worker_at asked s n a).key) z)
      go (inr (b, f)) ih =
          let (j, l, n, q, all) = ih b in (
            j,
            omega arith,
            goes_on i a (ap idle b) ∙ n,
            q ∙ ap (start a kind) (sym f),
            λ m x h. at m (all m x) h (ℕ_discrete m (suc i)),
          )
        where
          at : (m : ℕ) → (m ≤ i → ((worker_at asked s m a).work ≡ Busy kind) × ((worker_at asked s m a).key ≡ (worker_at asked s i a).key)) → m ≤ suc i
              → Dec (m ≡ suc i) → ((worker_at asked s m a).work ≡ Busy kind) × ((worker_at asked s m a).key ≡ k)
          at m all h (yes z) = (ap (λ (n : ℕ). (worker_at asked s n a).work) z ∙ e, ap (λ (n : ℕ). (worker_at asked s n a).key) z)
          at m all h (no z) = let r = all (omega arith) in (r.0, r.1 ∙ sym f)
