-- DEMAND 3. Start from a fresh table with idle records; let any calls follow, in any order. Then all that `Promise` says holds.
-- It rests on: `Together` (what a run is), `TogetherPromise` (what is promised), the calls' own definitions (`start_of`, `step_of`,
-- `withdraw_of` of this crate, `sweep_words` and `sweep_says` of tree, `fresh_words` of table), and tree's `Sound` and `InSet`.
-- Assumes nothing.
use mathlib.Core.Path.{◌≡◌, refl, sym, ap, ◌∙◌}
use mathlib.Core.Bool.{Bool, true, false, true≢false, false≢true}
use mathlib.Core.List.{List, [], ◌∷◌}
use mathlib.Core.Logic.{◌↔◌, ◌⊎◌, inl, inr, ⊎_elim, ◌≢◌}
use Prim.Native.Nat.{ℕ, suc, ◌≤◌, ◌<◌}
use native.Mathlib.Omega.{arith}
use native.Mathlib.Decide.{ℕ_discrete}
use lib.ListN.{length, length-map}
use borrow.Author.Tests.{lt-ltb}
use Rattle.refusal.specs.Said.{gives}
use Rattle.table.specs.Rules.{size_fine, table_fine}
use Rattle.tree.specs.Reach.{InSet}
use Rattle.tree.specs.Sound.{Sound}
use Rattle.tree.proofs.Fresh.{fresh_starts}
use Rattle.tree.proofs.Outcomes.{sound_checked}
use Rattle.tree.proofs.Refusals.{WhyList, list_1, list_6, list_11, list_refuses, WhyFirst, first_1, first_6, first_13, first_refuses}
use Rattle.protocol.specs.Says as says
use Rattle.protocol.specs.Says.{Verdict, going, full}
use Rattle.protocol.specs.Step.{step_of}
use Rattle.protocol.specs.Calls.{idle}
use Rattle.protocol.specs.Together.{Asked, step, withdraw, System, begin, idle_at, after, moment, words_at, worker_at, said_at, born, steps}
use Rattle.protocol.specs.Alone.{NoneFree}
use Rattle.protocol.specs.TogetherPromise.{AllIdle, SameSet, ChangedBy, Alters, busy_one, busy_ones, Changes, Did, Sometime, Truth, AsSet, Point, Promise}
use Rattle.protocol.specs.declared.Kind.{Kind}
use Rattle.protocol.specs.declared.Kind.TheVariants.{Lookup, Insert, Remove}
use Rattle.protocol.specs.declared.Work.{Work}
use Rattle.protocol.specs.declared.Work.TheVariants.{Idle, Busy}
use Rattle.protocol.specs.declared.Worker.{Worker}
use Rattle.protocol.specs.declared.Phase.{Phase}
use Rattle.protocol.proofs.CallLaws.{idle_is}
use Rattle.protocol.proofs.Together.Sum.{sum}
use Rattle.protocol.proofs.Together.Stages.{Stage, view, doing_by, doing}
use Rattle.protocol.proofs.Together.Machine.{said, done}
use Rattle.protocol.proofs.Together.Readers.{seat}
use Rattle.protocol.proofs.Together.Answers.{soon, changed, Closed}
use Rattle.protocol.proofs.Together.Good.{doings, Good, good_table, good_sound}
use Rattle.protocol.proofs.Together.Calls.{is_busy}
use Rattle.protocol.proofs.Together.Unrefused.{step_unrefused, withdraw_only_7, start_only_3_4}
use Rattle.protocol.proofs.Together.Sweeps.{rest_locks, rest_linked, sweep_only_8}
use Rattle.protocol.proofs.Together.Called.{Called, stepper, no_step, busy_is, busy_inside}
use Rattle.protocol.proofs.Together.Run.{Out, born_le}
use Rattle.protocol.proofs.Together.Does.{altered, Ending}
use Rattle.protocol.proofs.Together.History.{altered_at, idle_turn, call_changes, good_at, called_at, Earlier, did_iff}
use Rattle.protocol.proofs.Together.Works.{works_on}
use Rattle.protocol.proofs.Together.Begin.{fresh_good}
use Rattle.protocol.proofs.Together.Truth.{gives_busy, withdraws_busy, none_free, step_end, step_told, step_closed, withdraw_closed, step_full}

-- ANSWERS

abbrev is_yes : Verdict → Bool
is_yes going = false
is_yes says.yes = true
is_yes says.no = false
is_yes full = false

is_ending : (v : Verdict) → v ≢ going → Ending (said v)
is_ending going n = n refl
is_ending says.yes n = tt
is_ending says.no n = tt
is_ending full n = tt

-- an insert or remove that ended says yes exactly if it changed the set
closed_iff : (kind : Kind) (p : Stage) (v : Verdict) → Alters (Busy kind) → v ≢ going → Closed kind p (said v) → (v ≡ says.yes) ↔ (changed p ≡ true)
closed_iff Lookup p v a n c = absurd a
closed_iff Insert p going a n c = absurd c
closed_iff Insert p says.yes a n c = ((λ e. c), (λ e. refl))
closed_iff Insert p says.no a n c = ((λ e. absurd (false≢true (ap is_yes e))), (λ e. absurd (true≢false (sym e ∙ c))))
closed_iff Insert p full a n c = ((λ e. absurd (false≢true (ap is_yes e))), (λ e. absurd (true≢false (sym e ∙ c))))
closed_iff Remove p going a n c = absurd c
closed_iff Remove p says.yes a n c = ((λ e. c), (λ e. refl))
closed_iff Remove p says.no a n c = ((λ e. absurd (false≢true (ap is_yes e))), (λ e. absurd (true≢false (sym e ∙ c))))
closed_iff Remove p full a n c = ((λ e. absurd (false≢true (ap is_yes e))), (λ e. absurd (true≢false (sym e ∙ c))))

done_not : (kind : Kind) (p : Stage) → Closed kind p done → changed p ≡ false
done_not Lookup p c = c
done_not Insert p c = c
done_not Remove p c = c

abbrev is_insert : Kind → Bool
is_insert Lookup = false
is_insert Insert = true
is_insert Remove = false

insert_not : (kind : Kind) → kind ≡ Insert → is_insert kind ≡ false → ⊥
insert_not kind e f = true≢false (sym (ap is_insert e) ∙ f)

-- LISTS AND FIRST FRAMES of a table that is fine and sound

only_11 : {ws : List ℕ} {low high room : ℕ} (n : ℕ) → WhyList ws low high room n → table_fine ws ≡ true → Sound ws → n ≡ 11
only_11 n (list_1 t) f s = absurd (true≢false (sym f ∙ t))
only_11 n (list_6 t u) f s = absurd (u s)
only_11 n (list_11 t u r) f s = refl

only_13 : {ws : List ℕ} {from : ℕ} (n : ℕ) → WhyFirst ws from n → table_fine ws ≡ true → Sound ws → n ≡ 13
only_13 n (first_1 t) f s = absurd (true≢false (sym f ∙ t))
only_13 n (first_6 t u) f s = absurd (u s)
only_13 n (first_13 t u r) f s = refl

-- THE SEATS COUNTED

one_seat : (k : Work) (key : ℕ) (p : Phase) → seat (doing_by k key p) ≡ busy_one (idle k)
one_seat Idle key p = refl
one_seat (Busy kind) key p = refl

all_seats : (rs : List Worker) → sum seat (doings rs) ≡ busy_ones rs
all_seats [] = refl
all_seats (r ∷ rs) = omega (arith, one_seat r.work r.key r.phase, all_seats rs)

module _ (old : List ℕ) (size : size_fine (length old) ≡ true) (workers : List Worker) (rest : AllIdle workers) (asked : ℕ → Asked) where
  abbrev s : System
  s = begin old workers

  abbrev good : (i : ℕ) → Good (words_at asked s i) (moment asked s i).workers (Out asked s i) (steps asked s i)
  good i = good_at asked s (fresh_good old size workers rest (Out asked s 0) (steps asked s 0)) rest i

  abbrev called : (i : ℕ) → Called (moment asked s i) (asked i) (moment asked s (suc i))
  called i = called_at asked s (fresh_good old size workers rest (Out asked s 0) (steps asked s 0)) rest i

  -- what the work in hand did
  did : (i a : ℕ) → idle_at (moment asked s i) a ≡ false
      → (altered_at (moment asked s i) a ≡ true → Earlier asked s i a) × (Earlier asked s i a → altered_at (moment asked s i) a ≡ true)
  did i a b = did_iff asked s (fresh_good old size workers rest (Out asked s 0) (steps asked s 0)) rest i a b

  -- CHANGES
  one_change : (i j a : ℕ) → born asked s j a ≤ i → i < j → Changes asked s i a → Changes asked s j a → ⊥
  one_change i j a b l c d = ⊎_elim
      (λ e. d.1 e)
      (λ (x, q, t, f).
      let z : x ≡ a = sym (ap stepper q) ∙ ap stepper d.0 in
      busy z t (idle_at (moment asked s j) x) refl f)
      (call_changes (moment asked s j) (asked j) (good j) (moment asked s (suc j)) (called j))
    where
      busy : {x : ℕ} → x ≡ a → ChangedBy (worker_at asked s j x).work (worker_at asked s j x).key (words_at asked s j) (words_at asked s (suc j))
          → (y : Bool) → idle_at (moment asked s j) x ≡ y → altered_at (moment asked s j) x ≡ false → ⊥
      busy {x} z t true e f = idle_turn (worker_at asked s j x).work (worker_at asked s j x).key (words_at asked s j) (words_at asked s (suc j)) e t
      busy {x} z t false e f = true≢false (sym ((did j a (rw z at e)).1 (i, b, l, c)) ∙ (rw z at f))

  -- the words after a step of record a
  stepped_words : (i a : ℕ) → asked i ≡ step a → a < length (moment asked s i).workers
      → words_at asked s (suc i) ≡ (step_of (words_at asked s i) (worker_at asked s i a)).words
  stepped_words i a q l = ap (λ (x : Asked). (after (moment asked s i) x).words) q ∙ rw (lt-ltb a (length (moment asked s i).workers) l)

  -- up to call i, or before it
  split : (i a : ℕ) → Did asked s i a → Earlier asked s i a ⊎ Changes asked s i a
  split i a (j, b, l, c) = go (ℕ_discrete j i)
    where
      go : Dec (j ≡ i) → Earlier asked s i a ⊎ Changes asked s i a
      go (yes e) = inr (rw e at c)
      go (no e) = inl (j, b, omega arith, c)

  stage_altered : (i a : ℕ) (kind : Kind) → (worker_at asked s i a).work ≡ Busy kind → altered_at (moment asked s i) a ≡ changed (view (worker_at asked s i a).phase)
  stage_altered i a kind e = ap (λ (k : Work). altered (doing_by k (worker_at asked s i a).key (worker_at asked s i a).phase)) e

  yes_iff : (i a : ℕ) (v : Verdict) → asked i ≡ step a → (kind : Kind) → (worker_at asked s i a).work ≡ Busy kind → Alters (Busy kind)
      → said_at asked s i a ≡ gives v → v ≢ going → (v ≡ says.yes) ↔ Did asked s i a
  yes_iff i a v q kind e al h n =
      let b = gives_busy (words_at asked s i) (worker_at asked s i a) v h in
      let l = busy_inside (moment asked s i) a b in
      let c = closed_iff kind (view (worker_at asked s i a).phase) v al n (step_closed (good i) a l kind e v (is_ending v n) h) in
      let x = stage_altered i a kind e in
      let same = (step_end (good i) a l kind e v (is_ending v n) h).1 in (
        (λ y. let (j, m, o, d) = (did i a b).0 (x ∙ c.0 y) in (j, m, omega arith, d)),
        (λ y. ⊎_elim (λ z. c.1 (sym x ∙ (did i a b).1 z)) (λ z. absurd (z.1 (rw (stepped_words i a q l) same))) (split i a y)),
      )

  -- ANSWERS
  now : (i a : ℕ) (P : List ℕ → Type 0) → P (words_at asked s i) → Sometime asked s i a P
  now i a P p = (i, born_le asked s i a, omega arith, p)

  truth : (i a : ℕ) (kind : Kind) → (worker_at asked s i a).work ≡ Busy kind → (v : Verdict) → said_at asked s i a ≡ gives v
      → Truth asked s i a (Busy kind) (worker_at asked s i a).key v
  truth i a kind e v h = go kind e v h
    where
      b : (v : Verdict) → said_at asked s i a ≡ gives v → a < length (moment asked s i).workers
      b v h = busy_inside (moment asked s i) a (gives_busy (words_at asked s i) (worker_at asked s i a) v h)

      out : Out asked s i a (worker_at asked s i a).key → Sometime asked s i a (λ ws. InSet ws (worker_at asked s i a).key → ⊥)
      out (m, l, o, p) = (m, l, omega arith, p)

      go : (kind : Kind) → (worker_at asked s i a).work ≡ Busy kind → (v : Verdict) → said_at asked s i a ≡ gives v
          → Truth asked s i a (Busy kind) (worker_at asked s i a).key v
      go kind e going h = tt
      go Lookup e says.yes h = now i a (λ ws. InSet ws (worker_at asked s i a).key) (step_told (good i) a (b says.yes h) Lookup e says.yes tt h)
      go Insert e says.yes h = tt
      go Remove e says.yes h = tt
      go Lookup e says.no h = out (step_told (good i) a (b says.no h) Lookup e says.no tt h)
      go Insert e says.no h = now i a (λ ws. InSet ws (worker_at asked s i a).key) (step_told (good i) a (b says.no h) Insert e says.no tt h)
      go Remove e says.no h = out (step_told (good i) a (b says.no h) Remove e says.no tt h)
      go Lookup e full h = absurd (insert_not Lookup (step_full (good i) a (b full h) Lookup e h) refl)
      go Insert e full h =
          now i a (λ ws. (InSet ws (worker_at asked s i a).key → ⊥) × NoneFree ws)
          (step_told (good i) a (b full h) Insert e full tt h, none_free (words_at asked s i) (worker_at asked s i a) (good i).inv.shape.root_data h)
      go Remove e full h = absurd (insert_not Remove (step_full (good i) a (b full h) Remove e h) refl)

  -- POINTS
  unmoved : (ws : List ℕ) → SameSet ws ws
  unmoved ws k = ((λ x. x), (λ x. x))

  -- where the work that record a has in hand at moment i changed the set
  change_point : (i a j : ℕ) (kind : Kind) → (worker_at asked s i a).work ≡ Busy kind → born asked s i a ≤ j → j ≤ i → Changes asked s j a
      → ChangedBy (Busy kind) (worker_at asked s i a).key (words_at asked s j) (words_at asked s (suc j))
  change_point i a j kind e b l c = ⊎_elim
      (λ z. absurd (c.1 z))
      (λ (x, q, t, f).
      let z : x ≡ a = sym (ap stepper q) ∙ ap stepper c.0 in
      let w = works_on asked s rest i a kind e in
      let n = w.2 in
      let r = w.4 j (omega arith) l in
      rw (z, r.0, r.1) at t)
      (call_changes (moment asked s j) (asked j) (good j) (moment asked s (suc j)) (called j))

  abbrev Linear : ℕ → ℕ → Kind → Verdict → Type 0
  Linear i a kind v =
      (m n : ℕ) × (born asked s i a ≤ m) × (n ≤ suc i) × Point asked s a m n
      × AsSet (Busy kind) (worker_at asked s i a).key v (words_at asked s m) (words_at asked s n)

  linear : (i a : ℕ) (v : Verdict) → asked i ≡ step a → (kind : Kind) → (worker_at asked s i a).work ≡ Busy kind → said_at asked s i a ≡ gives v → v ≢ going
      → Linear i a kind v
  linear i a v q kind e h n = go v h n kind e (truth i a kind e v h)
    where
      turn : (kind : Kind) → (worker_at asked s i a).work ≡ Busy kind → Alters (Busy kind) → said_at asked s i a ≡ gives says.yes
          → (m o : ℕ) × (born asked s i a ≤ m) × (o ≤ suc i) × Point asked s a m o × ChangedBy (Busy kind) (worker_at asked s i a).key (words_at asked s m) (words_at asked s o)
      turn kind e al h =
          let (j, b, l, c) = (yes_iff i a says.yes q kind e al h (λ z. true≢false (ap is_yes z))).0 refl in
          (j, suc j, b, omega arith, inr (refl, c.0), change_point i a j kind e b l c)

      go : (v : Verdict) → said_at asked s i a ≡ gives v → v ≢ going → (kind : Kind) → (worker_at asked s i a).work ≡ Busy kind
          → Truth asked s i a (Busy kind) (worker_at asked s i a).key v → Linear i a kind v
      go going h n kind e t = absurd (n refl)
      go says.yes h n Lookup e (m, b, l, p) = (m, m, b, l, inl refl, (p, unmoved (words_at asked s m)))
      go says.yes h n Insert e t = turn Insert e tt h
      go says.yes h n Remove e t = turn Remove e tt h
      go says.no h n Lookup e (m, b, l, p) = (m, m, b, l, inl refl, (p, unmoved (words_at asked s m)))
      go says.no h n Insert e (m, b, l, p) = (m, m, b, l, inl refl, (p, unmoved (words_at asked s m)))
      go says.no h n Remove e (m, b, l, p) = (m, m, b, l, inl refl, (p, unmoved (words_at asked s m)))
      go full h n Lookup e t = absurd t
      go full h n Insert e (m, b, l, p) = (m, m, b, l, inl refl, (p.0, p.1, unmoved (words_at asked s m)))
      go full h n Remove e t = absurd t

  busy_kind : (i a : ℕ) → idle_at (moment asked s i) a ≡ false → (kind : Kind) × ((worker_at asked s i a).work ≡ Busy kind)
  busy_kind i a b = busy_is (worker_at asked s i a).work b

  -- DEMAND 3
  pub together : Promise asked s
  together = record {
    empty = (fresh_starts old size).empty;
    ordered = λ i. good_sound (good i);
    checked = λ i. sound_checked (words_at asked s i) (good_table (good i)) (good_sound (good i));
    changes = λ i. ⊎_elim (λ e. inl e) (λ (a, q, c, f). inr (a, q, c)) (call_changes (moment asked s i) (asked i) (good i) (moment asked s (suc i)) (called i));
    once = one_change;
    ended = λ i a v q al h n.
        let k = busy_kind i a (gives_busy (words_at asked s i) (worker_at asked s i a) v h) in
        yes_iff i a v q k.0 k.1 (rw k.1 at al) h n;
    withdrawn = λ i a q h d.
        let b = withdraws_busy (words_at asked s i) (worker_at asked s i a) h in
        let k = busy_kind i a b in
        let f = done_not k.0 _ (withdraw_closed (good i) a (busy_inside (moment asked s i) a b) k.0 k.1 h) in
        ⊎_elim (λ z. true≢false (sym ((did i a b).1 z) ∙ stage_altered i a k.0 k.1 ∙ f))
        (λ z. no_step (withdraw a) refl a (sym q ∙ z.0)) (split i a d);
    answers = λ i a v q h.
        let k = busy_kind i a (gives_busy (words_at asked s i) (worker_at asked s i a) v h) in
        rw k.1 (truth i a k.0 k.1 v h);
    lookups = λ i a e.
        let l = busy_inside (moment asked s i) a (ap idle e) in
        soon (good i).inv a (rw (length-map (moment asked s i).workers doing) l) (is_busy (good i) a l Lookup e);
    works = works_on asked s rest;
    atomic = λ i a v q h n.
        let k = busy_kind i a (gives_busy (words_at asked s i) (worker_at asked s i a) v h) in
        rw k.1 (linear i a v q k.0 k.1 h n);
    steps_on = λ i a n b q. let k = busy_kind i a b in step_unrefused (good i) a (busy_inside (moment asked s i) a b) k.0 k.1 n q;
    withdraws = λ i a n b q. let k = busy_kind i a b in withdraw_only_7 (good i) a (busy_inside (moment asked s i) a b) k.0 k.1 n q;
    starts = λ i a n kind key b q.
        start_only_3_4 (words_at asked s i) (worker_at asked s i a) (good_table (good i)) (idle_is (worker_at asked s i a).work b) kind key n q;
    lists = λ i low high room n q. only_11 n (list_refuses (words_at asked s i) low high room n q) (good_table (good i)) (good_sound (good i));
    firsts = λ i from n q. only_13 n (first_refuses (words_at asked s i) from n q) (good_table (good i)) (good_sound (good i));
    sweeps = λ i n q. sweep_only_8 (good i) n q;
    count = λ i. (good i).count ∙ all_seats (moment asked s i).workers;
    resting = λ i e. (rest_locks (good i) e, rest_linked (good i) e);
  }
