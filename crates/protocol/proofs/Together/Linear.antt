-- LINEARIZABILITY: for every run and every number of its calls there is one order of the works. From the promise, and from this of the
-- calls: a step that answers and a withdraw that is accepted leave an idle record. The order: moment after moment, first the works whose
-- answer was true then and leaves the set, then the one that the next call is a step of, if that call changes the set.
-- Assumes nothing.
use mathlib.Core.Path.{◌≡◌, refl, sym, ap, ◌∙◌, subst}
use mathlib.Core.Bool.{Bool, true, false, false≢true}
use mathlib.Core.List.{List}
use mathlib.Core.Logic.{◌⊎◌, inl, inr, ⊎_elim, ◌≢◌}
use Prim.Native.Nat.{ℕ, zero, suc, ◌≤◌, ◌<◌}
use native.Mathlib.Omega.{arith}
use native.Mathlib.Decide.{ℕ_discrete}
use lib.Dec.{ltb}
use lib.ListN.{length}
use borrow.Author.Tests.{ltb-true, ltb-false}
use Rattle.refusal.specs.Said.{Said, gives, refuses}
use Rattle.table.specs.Rules.{size_fine}
use Rattle.protocol.specs.Says as says
use Rattle.protocol.specs.Says.{Verdict, going, full}
use Rattle.protocol.specs.Calls.{withdraw_of}
use Rattle.protocol.specs.Sets.{no_values, Shows}
use Rattle.protocol.specs.Together.{Asked, start, step, withdraw, sweep, list, first, check, System, begin, idle_at, moment, words_at, worker_at, said_at, born}
use Rattle.protocol.specs.TogetherPromise.{AllIdle, SameSet, Alters, AsSet, Changes, Did, Point, Promise}
use Rattle.protocol.specs.Linear.{Entry, told, made, call_of, Has, Each, Pairs, Ends, OneWork, Apart, InOrder, Linear}
use Rattle.protocol.specs.declared.Worker.{Worker}
use Rattle.protocol.proofs.StepLaws.{is_going}
use Rattle.protocol.proofs.Together.Called.{stepper, no_step}
use Rattle.protocol.proofs.Together.Run.{born_le}
use Rattle.protocol.proofs.Together.Truth.{withdraws_busy}
use Rattle.protocol.proofs.Together.Demand.{together}
use Rattle.protocol.proofs.Together.LinearWorks.{
  gave_of,
  changed_busy,
  changed_alters,
  changed_set,
  yes_moves,
  stays,
  ends_busy,
  leaves_idle,
  then,
  same_born,
  gone,
  ended_gone,
}
use Rattle.protocol.proofs.Together.LinearHistory.{ToldBy, Tells, Silent, Judged, MadeBy, Turns, each_weak, each_has, pairs_with}
use Rattle.protocol.proofs.Together.LinearServes.{in_turn}
use Rattle.protocol.proofs.Together.LinearOrder.{time_of, Comes, history, leads_history, told_history, made_history, Fine, fine_history, pairs_history}

sooner : (i j : ℕ) → (i < j) ⊎ (j ≤ i)
sooner i j = go (ltb i j) refl
  where
    go : (b : Bool) → ltb i j ≡ b → (i < j) ⊎ (j ≤ i)
    go true e = inl (ltb-true i j e)
    go false e = inr (ltb-false i j e)

one_of : (i j : ℕ) {P : Type 0} → (i < j → P) → (j < i → P) → (i ≡ j → P) → P
one_of i j {P} f g h = ⊎_elim f (λ l. go l (ℕ_discrete i j)) (sooner i j)
  where
    go : j ≤ i → Dec (i ≡ j) → P
    go l (yes e) = h e
    go l (no e) = g (omega arith)

is_going_lem : (v : Verdict) → (v ≡ going) ⊎ (v ≢ going)
is_going_lem going = inl refl
is_going_lem says.yes = inr (λ e. false≢true (ap is_going e))
is_going_lem says.no = inr (λ e. false≢true (ap is_going e))
is_going_lem full = inr (λ e. false≢true (ap is_going e))

module _ (asked : ℕ → Asked) (s : System) (p : Promise asked s) where
  -- WHAT EACH CALL TELLS

  point_le : (a m n : ℕ) → Point asked s a m n → m ≤ n
  point_le a m n (inl e) = omega arith
  point_le a m n (inr (e, q)) = omega arith

  stepped : (i : ℕ) {a b : ℕ} → asked i ≡ step a → asked i ≡ step b → a ≡ b
  stepped i q r = sym (ap stepper q) ∙ ap stepper r

  no_call : (i : ℕ) (q : Asked) → ((a : ℕ) → q ≡ step a → ⊥) → asked i ≡ q → Judged asked s i
  no_call i q n e = inr (λ a v h. absurd (n a (sym e ∙ h.0)))

  -- a step whose answer ends nothing
  no_end : (i a : ℕ) → asked i ≡ step a → gave_of (said_at asked s i a) ≡ going → Silent asked s i
  no_end i a q e b v h = absurd (h.2 (sym (ap gave_of h.1) ∙ ap (λ (x : ℕ). gave_of (said_at asked s i x)) (stepped i h.0 q) ∙ e))

  -- an answer: where it was true, if it leaves the set
  by_answer : (i a : ℕ) (v : Verdict) → asked i ≡ step a → said_at asked s i a ≡ gives v → v ≢ going → Judged asked s i
  by_answer i a v q e n =
      let (m, o, since, until, at, does) = p.atomic i a v q e n in
      let l = point_le a m o at in
      ⊎_elim
      (λ t. inl (a, record { v = v; ends = (q, e, n); m = m; since = since; until = omega arith; held = t }))
      (λ (al, y). inr (λ b u h.
      let z = stepped i q h.0 in
      (sym (ap gave_of h.1) ∙ ap (λ (x : ℕ). gave_of (said_at asked s i x)) (sym z) ∙ ap gave_of e ∙ y, subst (Did asked s i) z ((p.ended i a v q al e n).0 y))))
      (stays (worker_at asked s i a).work (worker_at asked s i a).key v (words_at asked s m) (words_at asked s o) n does)

  by_said : (i a : ℕ) → asked i ≡ step a → (x : Said Verdict) → said_at asked s i a ≡ x → Judged asked s i
  by_said i a q (refuses n) e = inr (no_end i a q (ap gave_of e))
  by_said i a q (gives v) e = ⊎_elim (λ z. inr (no_end i a q (ap gave_of e ∙ z))) (by_answer i a v q e) (is_going_lem v)

  judged : (i : ℕ) → Judged asked s i
  judged i = go (asked i) refl
    where
      go : (q : Asked) → asked i ≡ q → Judged asked s i
      go (start a kind key) e = no_call i (start a kind key) (no_step (start a kind key) refl) e
      go (step a) e = by_said i a e (said_at asked s i a) refl
      go (withdraw a) e = no_call i (withdraw a) (no_step (withdraw a) refl) e
      go sweep e = no_call i sweep (no_step sweep refl) e
      go (list low high out) e = no_call i (list low high out) (no_step (list low high out) refl) e
      go (first from) e = no_call i (first from) (no_step (first from) refl) e
      go check e = no_call i check (no_step check refl) e

  turns : (k : ℕ) → Turns asked s k
  turns k = ⊎_elim inl (λ (a, q, c). inr (a, (q, c))) (p.changes k)

  -- of the record that the call is a step of
  told_at : (i a : ℕ) → asked i ≡ step a → (t : Tells asked s i) → (u : ToldBy asked s i a) × (u.m ≡ t.1.m)
  told_at i a q (b, t) = let z = stepped i t.ends.0 q in (subst (ToldBy asked s i) z t, refl)

  made_at : (k a : ℕ) → asked k ≡ step a → (b : ℕ) → MadeBy asked s k b → MadeBy asked s k a
  made_at k a q b c = subst (MadeBy asked s k) (stepped k c.0 q) c

  -- NO WORK TWICE

  made_busy : (k a : ℕ) → MadeBy asked s k a → idle_at (moment asked s k) a ≡ false
  made_busy k a c = changed_busy (worker_at asked s k a).work (worker_at asked s k a).key (words_at asked s k) (words_at asked s (suc k)) c.1

  made_changes : (k a : ℕ) → MadeBy asked s k a → Changes asked s k a
  made_changes k a c = (c.0, changed_set (worker_at asked s k a).work (worker_at asked s k a).key (words_at asked s k) (words_at asked s (suc k)) c.1)

  told_once : (i j a : ℕ) → ToldBy asked s i a → ToldBy asked s j a → born asked s i a ≡ born asked s j a → i < j → ⊥
  told_once i j a t u e l = ended_gone asked s p i j a t.v t.ends l (ends_busy asked s j a u.v u.ends) e

  made_once : (j k a : ℕ) → MadeBy asked s j a → MadeBy asked s k a → born asked s j a ≡ born asked s k a → j < k → ⊥
  made_once j k a c d e l = let b = born_le asked s j a in p.once j k a (omega arith) l (made_changes j a c) (made_changes k a d)

  -- a work that changed the set is an insert or a remove, and says yes when it ends
  says_yes : (i k a : ℕ) (v : Verdict) → Ends asked s i a v → MadeBy asked s k a → born asked s i a ≡ born asked s k a
      → Alters (worker_at asked s i a).work × (v ≡ says.yes)
  says_yes i k a v h c e = ⊎_elim (λ l. absurd (ended_gone asked s p i k a v h l (made_busy k a c) e)) before (sooner i k)
    where
      before : k ≤ i → Alters (worker_at asked s i a).work × (v ≡ says.yes)
      before l =
          let b = born_le asked s k a in
          let o : born asked s i a ≤ k = omega arith in
          let w = then asked s p i k a (ends_busy asked s i a v h) o l in
          let al = subst Alters w.0 (changed_alters (worker_at asked s k a).work (worker_at asked s k a).key (words_at asked s k) (words_at asked s (suc k)) c.1) in
          (al, (p.ended i a v h.0 al h.1 h.2).1 (k, o, l, made_changes k a c))

  told_made : (i k a : ℕ) → ToldBy asked s i a → MadeBy asked s k a → born asked s i a ≡ born asked s k a → ⊥
  told_made i k a t c e =
      let (al, y) = says_yes i k a t.v t.ends c e in
      yes_moves (worker_at asked s i a).work (worker_at asked s i a).key (words_at asked s t.m) al
      (subst (λ (v : Verdict). AsSet (worker_at asked s i a).work (worker_at asked s i a).key v (words_at asked s t.m) (words_at asked s t.m)) y t.held)

  module _ (N : ℕ) where
    abbrev Stands : Entry → Type 0
    Stands = Fine asked s judged turns N

    abbrev when : Entry → ℕ
    when = time_of asked s judged turns

    apart : (x y : Entry) → Stands x → Stands y → Comes asked s judged turns x y → Apart asked s x y
    apart (told i) (told j) (l, (t, z)) (m, (u, w)) (o, n) (a, q, r, e) =
        let f = (told_at i a q t).0 in
        let g = (told_at j a r u).0 in
        one_of i j (told_once i j a f g e) (told_once j i a g f (sym e)) (λ d. n (ap told d))
    apart (told i) (made k) (l, (t, z)) (m, (b, c)) o (a, q, r, e) = told_made i k a (told_at i a q t).0 (made_at k a r b c) e
    apart (made k) (told i) (m, (b, c)) (l, (t, z)) o (a, q, r, e) = told_made i k a (told_at i a r t).0 (made_at k a q b c) (sym e)
    apart (made j) (made k) (l, (b, c)) (m, (b', d)) (o, n) (a, q, r, e) =
        let f = made_at j a q b c in
        let g = made_at k a r b' d in
        one_of j k (made_once j k a f g e) (made_once k j a g f (sym e)) (λ z. n (ap made z))

    -- THE ORDER OF TIME

    started : (x : Entry) (a : ℕ) → Stands x → asked (call_of x) ≡ step a → born asked s (call_of x) a ≤ when x
    started (told i) a (l, (t, z)) q = let (u, e) = told_at i a q t in let b = u.since in omega arith
    started (made k) a (l, (b, c)) q = born_le asked s k a

    over : (y : Entry) (i a : ℕ) (v : Verdict) → Stands y → Ends asked s i a v → asked (call_of y) ≡ step a → born asked s i a ≡ born asked s (call_of y) a
        → when y ≤ suc i
    over (told j) i a v (l, (t, z)) h q e =
        let (u, f) = told_at j a q t in
        let b = u.until in
        ⊎_elim (λ o. absurd (ended_gone asked s p i j a v h o (ends_busy asked s j a u.v u.ends) e)) (λ o. omega arith) (sooner i j)
    over (made k) i a v (l, (b, c)) h q e =
        ⊎_elim (λ o. absurd (ended_gone asked s p i k a v h o (made_busy k a (made_at k a q b c)) e)) (λ o. omega arith) (sooner i k)

    in_order : (x y : Entry) → Stands x → Stands y → Comes asked s judged turns x y → InOrder asked s x y
    in_order x y f g (o, n) a i b v q h (c, r, t, e) late =
        let z = stepped i h.0 r in
        let m = started x a f q in
        let w = over y i c v g (subst (λ (d : ℕ). Ends asked s i d v) z h) t e in
        absurd (omega arith)

    -- WITHDRAWN

    unless : (i a : ℕ) → asked i ≡ withdraw a → (withdraw_of (words_at asked s i) (worker_at asked s i a)).says ≡ gives tt
        → (x : Entry) → Stands x → asked (call_of x) ≡ step a → born asked s (call_of x) a ≡ born asked s i a → ⊥
    unless i a q h (told j) (l, (t, z)) r e =
        let u = (told_at j a r t).0 in
        one_of i j (λ o. gone asked s p i j a (leaves_idle asked s i a q h) o (ends_busy asked s j a u.v u.ends) (sym e))
        (λ o. ended_gone asked s p j i a u.v u.ends o (withdraws_busy (words_at asked s i) (worker_at asked s i a) h) e)
        (λ d. no_step (withdraw a) refl a (sym q ∙ ap asked d ∙ r))
    unless i a q h (made k) (l, (b, c)) r e =
        let d = made_at k a r b c in
        let f : born asked s (call_of (made k)) a ≤ k = born_le asked s k a in
        ⊎_elim (λ o. gone asked s p i k a (leaves_idle asked s i a q h) o (made_busy k a d) (sym e))
        (λ o. p.withdrawn i a q h (k, omega arith, o, made_changes k a d)) (sooner i k)

    -- EVERY ANSWER

    abbrev works : List Entry
    works = history asked s judged turns N N zero

    changed : {i : ℕ} (k : ℕ) → i < N → k ≤ i → (SameSet (words_at asked s k) (words_at asked s (suc k)) → ⊥) → Has works (made k)
    changed k l m = made_history asked s judged turns N N zero k (omega arith) (omega arith)

    found : (i a : ℕ) (v : Verdict) → i < N → Ends asked s i a v → (j : Judged asked s i) → judged i ≡ j
        → Has works (told i) ⊎ ((v ≡ says.yes) × ((k : ℕ) × (k ≤ i) × OneWork asked s k i × Has works (made k)))
    found i a v l h (inl t) e =
        let b = t.1.until in
        inl (told_history asked s judged turns N N zero i t l e (omega arith) (omega arith))
    found i a v l h (inr f) e =
        let (y, (k, b, m, c)) = f a v h in
        let d = ends_busy asked s i a v h in
        inr (y, (k, m, (a, c.0, h.0, same_born asked s p i k a d b m), changed k l m c.1))

    fine : Each Stands works
    fine = each_weak (λ x f. f.0) works (fine_history asked s judged turns N N zero (omega arith))

    in_time : Pairs (Comes asked s judged turns) works
    in_time = pairs_history asked s judged turns N N zero (omega arith)

    short : (x : Entry) → Stands x → call_of x < N
    short (told i) f = f.0
    short (made k) f = f.0

    only_yes : (k i a : ℕ) (v : Verdict) → Has works (made k) → Ends asked s i a v → OneWork asked s i k → v ≡ says.yes
    only_yes k i a v g h (b, q, r, e) =
        let (l, (d, c)) = each_has Stands works (made k) fine g in
        (says_yes i k b v (subst (λ (x : ℕ). Ends asked s i x v) (stepped i h.0 q) h) (made_at k b r d c) e).1

    none_first : Shows (words_at asked s zero) no_values
    unfolding no_values
    none_first j = ((λ e. absurd (false≢true e)), (λ i. absurd (p.empty j i)))

    -- LINEARIZABILITY
    pub linear : Linear asked s N
    linear = (
      works,
      record {
        served = in_turn asked s p works zero N no_values (leads_history asked s judged turns N N zero N (omega arith)) none_first;
        within = each_weak short works fine;
        answered = λ i a v l h. found i a v l h (judged i) refl;
        completed = only_yes;
        withdrawn = λ i a q h. each_weak (unless i a q h) works fine;
        apart = pairs_with apart works fine in_time;
        order = pairs_with in_order works fine in_time;
      },
    )

-- For any words of a proper length, made fresh, for any idle records, for any calls in any order and for any number of them.
pub linearizable : (old : List ℕ) → size_fine (length old) ≡ true → (workers : List Worker) → AllIdle workers → (asked : ℕ → Asked) (n : ℕ)
    → Linear asked (begin old workers) n
linearizable old size workers rest asked n = linear asked (begin old workers) (together old size workers rest asked) n
