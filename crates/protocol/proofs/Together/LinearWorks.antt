-- ONE WORK OF A RUN, for the order of the works: once answered or withdrawn it is no longer in hand, so two calls that answer, or one that
-- answers and one that changes the set, are of different works.
-- Assumes nothing.
use mathlib.Core.Path.{◌≡◌, refl, sym, ap, ◌∙◌}
use mathlib.Core.Bool.{true, false, true≢false}
use mathlib.Core.List.{List}
use mathlib.Core.Logic.{◌⊎◌, inl, inr, ◌≢◌}
use Prim.Native.Nat.{ℕ, zero, suc, ◌≤◌, ◌<◌}
use native.Mathlib.Omega.{arith}
use native.Mathlib.Decide.{ℕ_discrete}
use lib.ListN.{length}
use lib.Seq.{get_or-set_same}
use borrow.Author.Tests.{lt-ltb}
use Rattle.refusal.specs.Said.{Said, gives, refuses}
use Rattle.protocol.specs.Says as says
use Rattle.protocol.specs.Says.{Verdict, going, full}
use Rattle.protocol.specs.Step.{Call, idle_worker, step_of}
use Rattle.protocol.specs.Calls.{idle, withdraw_of}
use Rattle.protocol.specs.Together.{Asked, step, withdraw, System, record_at, idle_at, placed, after, moment, words_at, worker_at, born}
use Rattle.protocol.specs.TogetherPromise.{SameSet, ChangedBy, Alters, AsSet, Promise}
use Rattle.protocol.specs.Linear.{Ends}
use Rattle.protocol.specs.declared.Kind.TheVariants.{Lookup, Insert, Remove}
use Rattle.protocol.specs.declared.Work.{Work}
use Rattle.protocol.specs.declared.Work.TheVariants.{Idle, Busy}
use Rattle.protocol.specs.declared.Worker.{Worker}
use Rattle.protocol.proofs.AnswerLaws.{gave}
use Rattle.protocol.proofs.StepLaws.{Fair, refusing, going_on, ending, step_fair}
use Rattle.protocol.proofs.CallLaws.{withdraw_ends}
use Rattle.protocol.proofs.Together.Called.{busy_is, busy_inside}
use Rattle.protocol.proofs.Together.Run.{busy_not, born_le}
use Rattle.protocol.proofs.Together.Truth.{gives_busy, withdraws_busy}

-- ANSWERS

abbrev pub gave_of : Said Verdict → Verdict
gave_of (gives v) = v
gave_of (refuses n) = going

-- a step that ends leaves an idle record
step_idle : (ws : List ℕ) (w : Worker) (v : Verdict) → (step_of ws w).says ≡ gives v → v ≢ going → idle (step_of ws w).worker.work ≡ true
step_idle ws w v h n = go (step_of ws w) (step_fair ws w) h
  where
    go : (c : Call Verdict) → Fair w ws c → c.says ≡ gives v → idle c.worker.work ≡ true
    go c (refusing m f) e = absurd (n (sym (ap gave_of e) ∙ ap (λ (x : Call Verdict). gave_of x.says) f))
    go c (going_on p vs f) e = absurd (n (sym (ap gave_of e) ∙ ap (λ (x : Call Verdict). gave_of x.says) f))
    go c (ending u vs m f) e = ap (λ (x : Call Verdict). idle x.worker.work) f

placed_idle : {A : Type 0} (S : System) (a : ℕ) (c : Call A) → a < length S.workers → idle c.worker.work ≡ true → idle_at (placed S a c) a ≡ true
placed_idle S a c l e = ap (λ (w : Worker). idle w.work) (get_or-set_same S.workers a c.worker idle_worker l) ∙ e

step_after : (S : System) (a : ℕ) (v : Verdict) → (step_of S.words (record_at S a)).says ≡ gives v → v ≢ going → idle_at (after S (step a)) a ≡ true
step_after S a v h n =
    let l = busy_inside S a (gives_busy S.words (record_at S a) v h) in
    rw (lt-ltb a (length S.workers) l) (placed_idle S a (step_of S.words (record_at S a)) l (step_idle S.words (record_at S a) v h n))

-- and so does a withdraw that is accepted
withdraw_idle : (ws : List ℕ) (w : Worker) → (withdraw_of ws w).says ≡ gives tt → idle (withdraw_of ws w).worker.work ≡ true
withdraw_idle ws w =
    withdraw_ends (λ (c : Call (Unit {0})). c.says ≡ gives tt → idle c.worker.work ≡ true) ws w
    (λ t q. absurd (gave (sym q))) (λ t i q. absurd (gave (sym q))) (λ kind t i f q. absurd (gave (sym q))) (λ kind t i f h q. absurd (gave (sym q)))
    (λ kind t i f h u q. absurd (gave (sym q))) (λ kind t i f h u q. refl)

withdraw_after : (S : System) (a : ℕ) → (withdraw_of S.words (record_at S a)).says ≡ gives tt → idle_at (after S (withdraw a)) a ≡ true
withdraw_after S a h =
    let l = busy_inside S a (withdraws_busy S.words (record_at S a) h) in
    rw (lt-ltb a (length S.workers) l) (placed_idle S a (withdraw_of S.words (record_at S a)) l (withdraw_idle S.words (record_at S a) h))

-- CHANGES

pub same : (ws : List ℕ) → SameSet ws ws
same ws k = ((λ x. x), (λ x. x))

pub changed_busy : (w : Work) (key : ℕ) (ws vs : List ℕ) → ChangedBy w key ws vs → idle w ≡ false
changed_busy Idle key ws vs c = absurd c
changed_busy (Busy kind) key ws vs c = refl

pub changed_alters : (w : Work) (key : ℕ) (ws vs : List ℕ) → ChangedBy w key ws vs → Alters w
changed_alters Idle key ws vs c = c
changed_alters (Busy Lookup) key ws vs c = c
changed_alters (Busy Insert) key ws vs c = tt
changed_alters (Busy Remove) key ws vs c = tt

pub changed_set : (w : Work) (key : ℕ) (ws vs : List ℕ) → ChangedBy w key ws vs → SameSet ws vs → ⊥
changed_set Idle key ws vs c e = c
changed_set (Busy Lookup) key ws vs c e = c
changed_set (Busy Insert) key ws vs c e = c.0 ((e key).1 c.1)
changed_set (Busy Remove) key ws vs c e = c.1 ((e key).0 c.0)

-- the yes of an insert or remove does not leave the set as it is
pub yes_moves : (w : Work) (key : ℕ) (ws : List ℕ) → Alters w → AsSet w key says.yes ws ws → ⊥
yes_moves Idle key ws al t = al
yes_moves (Busy Lookup) key ws al t = al
yes_moves (Busy Insert) key ws al t = changed_set (Busy Insert) key ws ws t (same ws)
yes_moves (Busy Remove) key ws al t = changed_set (Busy Remove) key ws ws t (same ws)

-- every other answer does, at the moment it was true of
pub stays : (w : Work) (key : ℕ) (v : Verdict) (ws vs : List ℕ) → v ≢ going → AsSet w key v ws vs → AsSet w key v ws ws ⊎ (Alters w × (v ≡ says.yes))
stays w key going ws vs n t = absurd (n refl)
stays Idle key says.yes ws vs n t = absurd t
stays (Busy Lookup) key says.yes ws vs n t = inl (t.0, same ws)
stays (Busy Insert) key says.yes ws vs n t = inr (tt, refl)
stays (Busy Remove) key says.yes ws vs n t = inr (tt, refl)
stays Idle key says.no ws vs n t = absurd t
stays (Busy Lookup) key says.no ws vs n t = inl (t.0, same ws)
stays (Busy Insert) key says.no ws vs n t = inl (t.0, same ws)
stays (Busy Remove) key says.no ws vs n t = inl (t.0, same ws)
stays Idle key full ws vs n t = absurd t
stays (Busy Lookup) key full ws vs n t = absurd t
stays (Busy Insert) key full ws vs n t = inl (t.0, t.1, same ws)
stays (Busy Remove) key full ws vs n t = absurd t

module _ (asked : ℕ → Asked) (s : System) where
  pub ends_busy : (i a : ℕ) (v : Verdict) → Ends asked s i a v → idle_at (moment asked s i) a ≡ false
  ends_busy i a v e = gives_busy (words_at asked s i) (worker_at asked s i a) v e.1

  ends_idle : (i a : ℕ) (v : Verdict) → Ends asked s i a v → idle_at (moment asked s (suc i)) a ≡ true
  ends_idle i a v (q, h, n) = ap (λ (x : Asked). idle_at (after (moment asked s i) x) a) q ∙ step_after (moment asked s i) a v h n

  pub leaves_idle : (i a : ℕ) → asked i ≡ withdraw a → (withdraw_of (words_at asked s i) (worker_at asked s i a)).says ≡ gives tt
      → idle_at (moment asked s (suc i)) a ≡ true
  leaves_idle i a q h = ap (λ (x : Asked). idle_at (after (moment asked s i) x) a) q ∙ withdraw_after (moment asked s i) a h

  born_on : (i a : ℕ) → idle_at (moment asked s i) a ≡ false → born asked s (suc i) a ≡ born asked s i a
  born_on i a e = rw (busy_not (idle_at (moment asked s i) a) (idle_at (moment asked s (suc i)) a) e)

  -- busy since moment b: born at one moment
  born_along : (i b k a : ℕ) → ((m : ℕ) → b ≤ m → m ≤ i → idle_at (moment asked s m) a ≡ false) → b ≤ k → k ≤ i → born asked s k a ≡ born asked s i a
  born_along zero b k a all l m = let z : k ≡ zero = omega arith in ap (λ (n : ℕ). born asked s n a) z
  born_along (suc i) b k a all l m = go (born_along i b k a (λ n x y. all n x (omega arith)) l) (ℕ_discrete k (suc i))
    where
      go : (k ≤ i → born asked s k a ≡ born asked s i a) → Dec (k ≡ suc i) → born asked s k a ≡ born asked s (suc i) a
      go ih (yes z) = ap (λ (n : ℕ). born asked s n a) z
      go ih (no z) = ih (omega arith) ∙ sym (born_on i a (all i (omega arith) (omega arith)))

module _ (asked : ℕ → Asked) (s : System) (p : Promise asked s) where
  -- the work in hand at moment i, at an earlier moment of its life
  pub then : (i k a : ℕ) → idle_at (moment asked s i) a ≡ false → born asked s i a ≤ k → k ≤ i
      → ((worker_at asked s k a).work ≡ (worker_at asked s i a).work) × ((worker_at asked s k a).key ≡ (worker_at asked s i a).key)
  then i k a b l m =
      let (kind, e) = busy_is (worker_at asked s i a).work b in
      let (j, o, n, q, all) = p.works i a kind e in
      let r = all k (omega arith) m in (r.0 ∙ sym e, r.1)

  pub same_born : (i k a : ℕ) → idle_at (moment asked s i) a ≡ false → born asked s i a ≤ k → k ≤ i → born asked s k a ≡ born asked s i a
  same_born i k a b l m =
      born_along asked s i (born asked s i a) k a (λ n x y. ap idle (then i n a b x y).0 ∙ b) l m

  -- what was idle after call i is not in hand at moment j, if it is born before call i
  pub gone : (i j a : ℕ) → idle_at (moment asked s (suc i)) a ≡ true → i < j → idle_at (moment asked s j) a ≡ false → born asked s i a ≡ born asked s j a → ⊥
  gone i j a d l b e =
      let o = born_le asked s i a in
      true≢false (sym d ∙ ap idle (then j (suc i) a b (omega arith) (omega arith)).0 ∙ b)

  pub ended_gone : (i j a : ℕ) (v : Verdict) → Ends asked s i a v → i < j → idle_at (moment asked s j) a ≡ false → born asked s i a ≡ born asked s j a → ⊥
  ended_gone i j a v h = gone i j a (ends_idle asked s i a v h)
