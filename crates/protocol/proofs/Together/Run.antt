-- EVERY MOMENT OF A RUN IS GOOD: whatever is called, a good moment follows a good one; and a fresh table with idle records is one.
-- Assumes nothing.
use mathlib.Core.Path.{◌≡◌, refl, sym, ap, ◌∙◌, subst}
use mathlib.Core.Bool.{Bool, true, false, cond, not, ◌&&◌, true≢false}
use mathlib.Core.List.{List, [], ◌∷◌}
use mathlib.Core.Logic.{◌≢◌}
use Prim.Native.Nat.{ℕ, zero, suc, ◌/◌, ◌≤◌, ◌<◌}
use native.Mathlib.Omega.{arith}
use native.Mathlib.Decide.{ℕ_discrete}
use lib.ListN.{length, get_or, set, length-set, length-map}
use lib.Seq.{get_or-set_same, get_or-set_other}
use Rattle.table.specs.Pair.{slots_of, lock_of}
use Rattle.tree.specs.Reach.{tab_of, InSet}
use Rattle.protocol.specs.Step.{idle_worker}
use Rattle.protocol.specs.Calls.{idle}
use Rattle.protocol.specs.Together.{Asked, step, System, record_at, idle_at, is_step, moment, words_at, born, steps}
use Rattle.protocol.specs.declared.Work.{Work}
use Rattle.protocol.specs.declared.Work.TheVariants.{Idle, Busy}
use Rattle.protocol.specs.declared.Worker.{Worker}
use Rattle.protocol.specs.declared.Phase.{Phase}
use Rattle.protocol.proofs.Together.Sum.{sum, sum_set}
use Rattle.protocol.proofs.Together.Stages as stages
use Rattle.protocol.proofs.Together.Stages.{Doing, doing_by, doing, Working}
use Rattle.protocol.proofs.Together.Machine.{Answer, said, done}
use Rattle.protocol.proofs.Together.Readers.{seat}
use Rattle.protocol.proofs.Together.Inv.{Inv, move, inv_mono}
use Rattle.protocol.proofs.Together.Good.{doings, doing_at, LegalKey, Good, good_inside}
use Rattle.protocol.proofs.Together.Calls.{Moved}
use Rattle.protocol.proofs.Together.Sweeps.{swept_good}
use Rattle.protocol.proofs.Together.Called.{stepper, is_step_lem, Tie, Called, none, by, swept, called}

map_set : (rs : List Worker) (a : ℕ) (v : Worker) → doings (set rs a v) ≡ set (doings rs) a (doing v)
map_set [] a v = refl
map_set (r ∷ rs) zero v = refl
map_set (r ∷ rs) (suc a) v = ap (λ (ds : List Doing). doing r ∷ ds) (map_set rs a v)

working_by : (k : Work) (key : ℕ) (p : Phase) → Working (doing_by k key p) → idle k ≡ false
working_by Idle key p w = absurd w
working_by (Busy kind) key p w = refl

resting_by : (k : Work) (key : ℕ) (p : Phase) → (Working (doing_by k key p) → ⊥) → idle k ≡ true
resting_by Idle key p w = refl
resting_by (Busy kind) key p w = absurd (w tt)

-- a work begins with a call: idle before, busy after
abbrev pub begins : System → System → ℕ → Bool
begins s t b = idle_at s b && not (idle_at t b)

no_begin : (x : Bool) → (x && not x) ≡ false
no_begin true = refl
no_begin false = refl

pub begins_not : (x y : Bool) → y ≡ x → (x && not y) ≡ false
begins_not x y e = rw e (no_begin x)

pub busy_not : (x y : Bool) → x ≡ false → (x && not y) ≡ false
busy_not x y e = rw e

-- own steps: none of an idle record, one more of a step
abbrev pub stepped : Bool → Bool → ℕ → ℕ
stepped i m t = cond i 0 (cond m (suc t) t)

stepped_same : (i m : Bool) (t : ℕ) → (i ≡ false → m ≡ false) → stepped i m t ≤ t
stepped_same true m t h = omega arith
stepped_same false true t h = absurd (true≢false (h refl))
stepped_same false false t h = omega arith

stepped_more : (i m : Bool) (t : ℕ) → stepped i m t ≤ suc t
stepped_more true m t = omega arith
stepped_more false true t = omega arith
stepped_more false false t = omega arith

-- only the record that is asked steps
pub tie_one : (s : System) (q : Asked) (a : ℕ) (o : Answer) → Tie s q a o → (b : ℕ) → b ≢ a → q ≡ step b → ⊥
tie_one s q a (said v) t b n e = n (sym (ap stepper e) ∙ ap stepper t.0)
tie_one s q a done t b n e = t b e

not_step : (q : Asked) (b : ℕ) → (q ≡ step b → ⊥) → is_step q b ≡ false
not_step q b h = go (is_step q b) refl
  where
    go : (x : Bool) → is_step q b ≡ x → x ≡ false
    go true e = absurd (h (is_step_lem q b e))
    go false e = refl

module _ {O : ℕ → ℕ → Type 0} {T : ℕ → ℕ} (s : System) (q : Asked) (g : Good s.words s.workers O T) (N : ℕ → ℕ → Type 0) where
  abbrev after_steps : ℕ → ℕ
  after_steps b = stepped (idle_at s b) (is_step q b) (T b)

  abbrev rs : List Worker
  rs = s.workers

  moved_good : (a : ℕ) (l : a < length rs) (v : Worker) (vs : List ℕ) (o : Answer) → Moved s.words (record_at s a) v vs o
      → length vs ≡ length s.words → Tie s q a o
      → ((b k : ℕ) → begins s (record { words = vs; workers = set rs a v }) b ≡ false → O b k → N b k)
      → ((b k : ℕ) → (InSet vs k → ⊥) → N b k) → Good vs (set rs a v) N after_steps
  moved_good a l v vs o m len t keep out =
      record {
        inv = subst (λ (ds : List Doing). Inv (slots_of vs) (tab_of vs) (lock_of vs) ds N after_steps) (sym (map_set rs a v))
            (subst (λ (n : ℕ). Inv n (tab_of vs) (lock_of vs) (set (doings rs) a (doing v)) N after_steps) (ap (λ (n : ℕ). n / 2) (sym len))
            (move g.inv a low (doing w) (doing_at rs a) m.move (good_inside g) N
            (λ b k n p. keep b k (other b n) p)
            (λ y k p. keep a k (busy_not (idle_at s a) (idle_at t' a) (working_by w.work w.key w.phase y)) p)
            out after_steps
            (λ b n. stepped_same (idle_at s b) (is_step q b) (T b) (λ i. not_step q b (tie_one s q a o t b n)))
            (λ y. stepped_more (idle_at s a) (is_step q a) (T a))
            (λ y. rw (resting_by w.work w.key w.phase y))));
        clean = m.clean;
        count = omega (arith, m.seats, g.count, sum_set seat (doings rs) a (doing v) stages.idle low, ap seat (doing_at rs a), ap (λ (ds : List Doing). sum seat ds) (map_set rs a v));
        most = m.most;
        keys = λ b lb. key_at b lb (ℕ_discrete b a);
      }
    where
      w : Worker
      w = get_or rs a idle_worker

      low : a < length (doings rs)
      low = rw (length-map rs doing) l

      t' : System
      t' = record { words = vs; workers = set rs a v }

      other : (b : ℕ) → b ≢ a → begins s t' b ≡ false
      other b n = begins_not (idle_at s b) (idle_at t' b) (ap (λ (x : Worker). idle x.work) (get_or-set_other rs a b v idle_worker n))

      key_at : (b : ℕ) → b < length (set rs a v) → Dec (b ≡ a) → LegalKey (get_or (set rs a v) b idle_worker)
      key_at b lb (yes e) = rw (e, get_or-set_same rs a v idle_worker l) (m.legal (g.keys a l))
      key_at b lb (no e) = rw (get_or-set_other rs a b v idle_worker e) (g.keys b (rw (length-set rs a v) at lb))

  same_good : ((b k : ℕ) → O b k → N b k) → ((b : ℕ) → idle_at s b ≡ false → q ≡ step b → ⊥) → Good s.words rs N after_steps
  same_good keep quiet =
      record {
        inv = inv_mono g.inv N after_steps keep (λ b. stepped_same (idle_at s b) (is_step q b) (T b) (λ i. not_step q b (quiet b i)));
        clean = g.clean;
        count = g.count;
        most = g.most;
        keys = g.keys;
      }

  pub call_good : (t : System) → Called s q t → ((b k : ℕ) → begins s t b ≡ false → O b k → N b k)
      → ((b k : ℕ) → (InSet t.words k → ⊥) → N b k) → Good t.words t.workers N after_steps
  call_good t (none e quiet) keep out =
      subst (λ (x : System). Good x.words x.workers N after_steps) (sym e)
      (same_good (λ b k. keep b k (begins_not (idle_at s b) (idle_at t b) (ap (λ (x : System). idle_at x b) e))) quiet)
  call_good t (by a l v vs o m len tie) keep out = moved_good a l v vs o m len tie keep out
  call_good t (swept vs x y) keep out = swept_good g vs x N after_steps

-- A RUN
module _ (asked : ℕ → Asked) (s : System) where
  -- k was out at a moment from the start of a's work up to moment i
  abbrev pub Out : ℕ → ℕ → ℕ → Type 0
  Out i a k = (m : ℕ) × (born asked s i a ≤ m) × (m ≤ i) × (InSet (words_at asked s m) k → ⊥)

  born_cases : (P : ℕ → Type 0) (b : Bool) (x y : ℕ) → P x → P y → P (cond b x y)
  born_cases P true x y p q = p
  born_cases P false x y p q = q

  pub born_le : (i a : ℕ) → born asked s i a ≤ i
  born_le zero a = omega arith
  born_le (suc i) a =
      born_cases (λ x. x ≤ suc i) (begins (moment asked s i) (moment asked s (suc i)) a) (suc i) (born asked s i a) (omega arith) (omega (arith, born_le i a))

  pub always : Good s.words s.workers (Out 0) (steps asked s 0) → (i : ℕ)
      → Good (words_at asked s i) (moment asked s i).workers (Out i) (steps asked s i)
  always g zero = g
  always g (suc i) =
      call_good (moment asked s i) (asked i) (always g i) (Out (suc i)) (moment asked s (suc i)) (called (moment asked s i) (always g i) (asked i))
      (λ b k e (m, l, h, p). (m, rw e l, omega arith, p))
      (λ b k p. (suc i, born_le (suc i) b, omega arith, p))
