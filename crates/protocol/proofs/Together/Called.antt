-- EVERY CALL OF A RUN is a move of one record, a sweep that is done, or changes nothing; and a step of a busy record is never the
-- last of these.
-- Assumes nothing.
use mathlib.Core.Path.{◌≡◌, refl, sym, ap, ◌∙◌}
use mathlib.Core.Bool.{Bool, true, false, true≢false, false≢true}
use mathlib.Core.List.{List}
use Prim.Native.Nat.{ℕ, ◌≤◌, ◌<◌}
use lib.Dec.{ltb}
use lib.ListN.{length, set, get_or-eq_default}
use lib.Seq.{set-get_or}
use borrow.Author.Tests.{ltb-true, ltb-false, eqb-true}
use Rattle.refusal.specs.Said.{Said, gives, refuses}
use Rattle.moment.proofs.Tests.{by_cases}
use Rattle.tree.specs.Answers.{sweep_says, sweep_words}
use Rattle.tree.proofs.Sweeping.{AfterSweep, sweep_done}
use Rattle.tree.proofs.Outcomes.{sweep_refused}
use Rattle.protocol.specs.Says.{Verdict}
use Rattle.protocol.specs.Step.{Call, refused, idle_worker, step_of}
use Rattle.protocol.specs.Calls.{idle, start_of, withdraw_of}
use Rattle.protocol.specs.Together.{Asked, start, step, withdraw, sweep, list, first, check, System, record_at, idle_at, placed, after, is_step}
use Rattle.protocol.specs.declared.Kind.{Kind}
use Rattle.protocol.specs.declared.Work.{Work}
use Rattle.protocol.specs.declared.Work.TheVariants.{Idle, Busy}
use Rattle.protocol.specs.declared.Worker.{Worker}
use Rattle.protocol.proofs.StepLaws.{says_of}
use Rattle.protocol.proofs.ChangeLaws.{step_length, start_length, withdraw_length}
use Rattle.protocol.proofs.Together.Machine.{Answer, said, done}
use Rattle.protocol.proofs.Together.Good.{Good}
use Rattle.protocol.proofs.Together.Calls as calls
use Rattle.protocol.proofs.Together.Calls.{Moved, StepIs, CallIs, step_is, start_is, withdraw_is}
use Rattle.protocol.proofs.Together.Unrefused.{step_unrefused}

-- CALLS APART

abbrev pub steps_any : Asked → Bool
steps_any (start a kind key) = false
steps_any (step a) = true
steps_any (withdraw a) = false
steps_any sweep = false
steps_any (list low high out) = false
steps_any (first from) = false
steps_any check = false

abbrev pub stepper : Asked → ℕ
stepper (start a kind key) = 0
stepper (step a) = a
stepper (withdraw a) = 0
stepper sweep = 0
stepper (list low high out) = 0
stepper (first from) = 0
stepper check = 0

pub no_step : (q : Asked) → steps_any q ≡ false → (a : ℕ) → q ≡ step a → ⊥
no_step q n a e = true≢false (sym (ap steps_any e) ∙ n)

pub is_step_lem : (q : Asked) (a : ℕ) → is_step q a ≡ true → q ≡ step a
is_step_lem (start b kind key) a e = absurd (false≢true e)
is_step_lem (step b) a e = ap step (sym (eqb-true a b e))
is_step_lem (withdraw b) a e = absurd (false≢true e)
is_step_lem sweep a e = absurd (false≢true e)
is_step_lem (list low high out) a e = absurd (false≢true e)
is_step_lem (first from) a e = absurd (false≢true e)
is_step_lem check a e = absurd (false≢true e)

-- IDLE OR BUSY

pub busy_is : (work : Work) → idle work ≡ false → (kind : Kind) × (work ≡ Busy kind)
busy_is Idle e = absurd (true≢false e)
busy_is (Busy kind) e = (kind, refl)

pub beyond_idle : (s : System) (a : ℕ) → length s.workers ≤ a → idle_at s a ≡ true
beyond_idle s a l = ap (λ (w : Worker). idle w.work) (get_or-eq_default s.workers idle_worker l)

pub busy_inside : (s : System) (a : ℕ) → idle_at s a ≡ false → a < length s.workers
busy_inside s a e = go (ltb a (length s.workers)) refl
  where
    go : (b : Bool) → ltb a (length s.workers) ≡ b → a < length s.workers
    go true f = ltb-true a (length s.workers) f
    go false f = absurd (true≢false (sym (beyond_idle s a (ltb-false a (length s.workers) f)) ∙ e))

-- WHAT A CALL COMES TO

-- the call is what gave the answer
abbrev pub Tie : System → Asked → ℕ → Answer → Type 0
Tie s q a (said v) = (q ≡ step a) × ((step_of s.words (record_at s a)).says ≡ gives v)
Tie s q a done = (b : ℕ) → q ≡ step b → ⊥

pub data Called (s : System) (q : Asked) : System → Type 0 where
  none : {t : System} → t ≡ s → ((a : ℕ) → idle_at s a ≡ false → q ≡ step a → ⊥) → Called s q t
  by : (a : ℕ) → a < length s.workers → (v : Worker) (vs : List ℕ) (o : Answer) → Moved s.words (record_at s a) v vs o
      → length vs ≡ length s.words → Tie s q a o → Called s q (record { words = vs; workers = set s.workers a v })
  swept : (vs : List ℕ) → AfterSweep s.words vs → ((a : ℕ) → q ≡ step a → ⊥) → Called s q (record { words = vs; workers = s.workers })

-- a refused call leaves everything
left_all : {A : Type 0} (s : System) (a n : ℕ) (c : Call A) → c ≡ refused n (record_at s a) s.words → placed s a c ≡ s
left_all {A} s a n c e =
    ap (λ (x : Call A). placed s a x) e ∙ (λ t. record { words = s.words; workers = set-get_or s.workers a idle_worker t })

module _ {O : ℕ → ℕ → Type 0} {T : ℕ → ℕ} (s : System) (g : Good s.words s.workers O T) where
  step_called : (a : ℕ) → a < length s.workers → (c : Call Verdict) → step_of s.words (record_at s a) ≡ c
      → StepIs s.words (record_at s a) c → Called s (step a) (placed s a c)
  step_called a l c e (calls.refusing n f) =
      none (left_all s a n c f)
      (λ b i q.
      let z : a ≡ b = ap stepper q in
      let k = busy_is (record_at s a).work (rw (← z) at i) in
      step_unrefused g a l k.0 k.1 n (ap says_of (e ∙ f)))
  step_called a l c e (calls.moving v f m) =
      by a l c.worker c.words (said v) m (ap (λ (x : Call Verdict). length x.words) (sym e) ∙ step_length s.words (record_at s a))
      (refl, ap says_of e ∙ f)

  call_called : (q : Asked) → steps_any q ≡ false → (a : ℕ) → a < length s.workers → (c : Call (Unit {0})) → length c.words ≡ length s.words
      → CallIs s.words (record_at s a) c → Called s q (placed s a c)
  call_called q d a l c e (calls.refusing n f) = none (left_all s a n c f) (λ b i. no_step q d b)
  call_called q d a l c e (calls.moving m) = by a l c.worker c.words done m e (no_step q d)

  beyond : (q : Asked) (a : ℕ) → ltb a (length s.workers) ≡ false → ((b : ℕ) → q ≡ step b → a ≡ b) → Called s q s
  beyond q a f h =
      none refl (λ b i e. true≢false (sym (beyond_idle s b (rw (h b e) at (ltb-false a (length s.workers) f))) ∙ i))

  sweep_called : (x : Said (Unit {0})) → sweep_says s.words ≡ x → Called s sweep (record { words = sweep_words s.words; workers = s.workers })
  sweep_called (gives tt) e = swept (sweep_words s.words) (sweep_done s.words e) (no_step sweep refl)
  sweep_called (refuses n) e =
      none (λ t. record { words = sweep_refused s.words n e t; workers = s.workers }) (λ b i. no_step sweep refl b)

  pub called : (q : Asked) → Called s q (after s q)
  called (start a kind key) =
      by_cases (Called s (start a kind key)) (ltb a (length s.workers))
      (λ f. let l = ltb-true a (length s.workers) f in
      call_called (start a kind key) refl a l (start_of s.words (record_at s a) kind key) (start_length s.words (record_at s a) kind key) (start_is g a l kind key))
      (λ f. beyond (start a kind key) a f (λ b e. absurd (no_step (start a kind key) refl b e)))
  called (step a) =
      by_cases (Called s (step a)) (ltb a (length s.workers))
      (λ f. let l = ltb-true a (length s.workers) f in step_called a l (step_of s.words (record_at s a)) refl (step_is g a l))
      (λ f. beyond (step a) a f (λ b e. ap stepper e))
  called (withdraw a) =
      by_cases (Called s (withdraw a)) (ltb a (length s.workers))
      (λ f. let l = ltb-true a (length s.workers) f in
      call_called (withdraw a) refl a l (withdraw_of s.words (record_at s a)) (withdraw_length s.words (record_at s a)) (withdraw_is g a l))
      (λ f. beyond (withdraw a) a f (λ b e. absurd (no_step (withdraw a) refl b e)))
  called sweep = sweep_called (sweep_says s.words) refl
  called (list low high out) = none refl (λ b i. no_step (list low high out) refl b)
  called (first from) = none refl (λ b i. no_step (first from) refl b)
  called check = none refl (λ b i. no_step check refl b)
