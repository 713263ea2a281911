-- Works run one after the other, sweeps between them, from any calm table that holds a set of values. Assumes nothing.
use mathlib.Core.Path.{◌≡◌, refl, sym, ap, ◌∙◌, subst}
use mathlib.Core.Bool.{Bool, true, false, cond, not, ◌&&◌, ◌||◌, true≢false}
use mathlib.Core.List.{List, [], ◌∷◌}
use mathlib.Core.Logic.{◌↔◌, ◌≢◌}
use Prim.Native.Nat.{ℕ}
use native.Mathlib.Omega.{arith}
use native.Mathlib.Decide.{ℕ_discrete}
use lib.Dec.{eqb}
use lib.ListN.{length}
use borrow.Author.Tests.{eq-eqb, ne_eqb}
use Rattle.refusal.specs.Said.{Said, gives, refuses}
use Rattle.table.specs.Pair.{deleted, state_f, lock_f, busy_f, state_of, lock_of, busy_of}
use Rattle.table.specs.Rules.{size_fine, table_fine, fresh_words}
use Rattle.table.specs.declared.Which.{Which}
use Rattle.table.proofs.ChangeLaws.{field_in, lock_apart}
use Rattle.table.proofs.FreshLaws.{fresh_root_state, fresh_root_bare, fresh_field}
use Rattle.tree.specs.Reach.{top, InSet}
use Rattle.tree.specs.Answers.{sweepable, sweep_says, sweep_words}
use Rattle.tree.proofs.Sweeping.{sweep_done}
use Rattle.tree.proofs.Refusals.{is_sweepable}
use Rattle.tree.proofs.Fresh.{fresh_starts}
use Rattle.protocol.specs.Says as verdict
use Rattle.protocol.specs.Alone.{Calm, Runs, last, more, Finishes}
use Rattle.protocol.specs.Sets.{Values, no_values, responds, values_after, said, Shows, Item, work, sweep, Proper, Served, done, answered, too_full, swept}
use Rattle.protocol.specs.declared.Kind.TheVariants.{Lookup, Insert, Remove}
use Rattle.protocol.specs.declared.Worker.{Worker}
use Rattle.protocol.proofs.AnswerLaws.{gave}
use Rattle.protocol.proofs.Alone.Works.{finishes}

-- A FRESH TABLE IS CALM, and holds no values
pub fresh_calm : (ws : List ℕ) → size_fine (length ws) ≡ true → Calm (fresh_words ws)
fresh_calm ws e =
    let s = fresh_starts ws e in
    record {
      fine = s.fine;
      sound = s.sound;
      no_lock = λ i l h. lock i l (ℕ_discrete i 0);
      linked = λ y r. state y (ℕ_discrete y 0);
      nobody = fresh_root_bare ws e busy_f (omega arith);
    }
  where
    lock : (i : ℕ) (l : Which) → Dec (i ≡ 0) → lock_of (fresh_words ws) i l ≡ 0
    lock i l (yes z) = rw z (fresh_root_bare ws e (lock_f l) (lock_apart l).0)
    lock i l (no z) = fresh_field ws e (lock_f l) i z

    state : (i : ℕ) → Dec (i ≡ 0) → state_of (fresh_words ws) i ≢ deleted
    state i (yes z) q = let r = fresh_root_state ws e in let q' : state_of (fresh_words ws) 0 ≡ deleted = ap (state_of (fresh_words ws)) (sym z) ∙ q in omega arith
    state i (no z) q = let r = fresh_field ws e state_f i z in omega arith

pub fresh_shows : (ws : List ℕ) → size_fine (length ws) ≡ true → Shows (fresh_words ws) no_values
unfolding no_values
fresh_shows ws e j = ((λ h. absurd (true≢false (sym h))), λ h. absurd ((fresh_starts ws e).empty j h))

-- A SWEEP OF A CALM TABLE IS DONE, and the table is calm
pub sweeps_calm : (ws : List ℕ) → Calm ws → sweep_says ws ≡ gives tt
unfolding sweep_says
sweeps_calm ws c =
    rw (c.fine, c.nobody, is_sweepable ws c.fine (record { sound = c.sound; no_lock = c.no_lock; linked = c.linked }))

pub swept_calm : (ws : List ℕ) → sweep_says ws ≡ gives tt → Calm (sweep_words ws)
swept_calm ws e =
    let a = sweep_done ws e in
    record {
      fine = a.fine;
      sound = a.sound;
      no_lock = λ i l h. a.locks i l h;
      linked = λ y r q. (let h = field_in state_f (sweep_words ws) y (λ z. omega arith) in a.none y (omega arith) q);
      nobody = a.words.field busy_f 0 (a.before.linked 0 (top refl)) ∙ a.nobody;
    }

-- so a table is calm exactly if a sweep of it is done
swept_fine : (b : Bool) (x : Said (Unit {0})) → cond b x (refuses 1) ≡ gives tt → b ≡ true
swept_fine true x e = refl
swept_fine false x e = absurd (gave (sym e))

pub calm_exactly : (ws : List ℕ) → Calm ws ↔ (sweep_says ws ≡ gives tt)
unfolding sweep_says
calm_exactly ws = (
  sweeps_calm ws,
  λ e.
      let a = sweep_done ws e in
      record {
        fine = swept_fine (table_fine ws) (cond (eqb (busy_of ws) 0) (cond (sweepable ws) (gives tt) (refuses 6)) (refuses 8)) e;
        sound = a.before.sound;
        no_lock = a.before.no_lock;
        linked = a.before.linked;
        nobody = a.nobody;
      },
)

-- THE TABLE AFTER A WORK HOLDS WHAT THE SET TYPE SAYS

-- a value that is, or is not, the one of the work
at_value : (P : Bool → Type 0) (j k : ℕ) → (j ≡ k → P true) → (j ≢ k → P false) → P (eqb j k)
at_value P j k f g = go (ℕ_discrete j k)
  where
    go : Dec (j ≡ k) → P (eqb j k)
    go (yes e) = rw (eq-eqb j k e) (f e)
    go (no e) = rw (ne_eqb j k e) (g e)

module _ (ws vs : List ℕ) {S : Values} (h : Shows ws S) (k : ℕ) (others : (j : ℕ) → j ≢ k → InSet vs j ↔ InSet ws j) where
  other_shows : (j : ℕ) → j ≢ k → (S j ≡ true) ↔ InSet vs j
  other_shows j n = ((λ e. (others j n).1 ((h j).0 e)), λ i. (h j).1 ((others j n).0 i))

  pub shows_put : InSet vs k → Shows vs (values_after Insert S k)
  unfolding values_after
  shows_put i j =
      at_value (λ b. ((b || S j) ≡ true) ↔ InSet vs j) j k (λ e. ((λ t. rw e i), λ t. refl)) (λ n. other_shows j n)

  pub shows_taken : (InSet vs k → ⊥) → Shows vs (values_after Remove S k)
  unfolding values_after
  shows_taken o j =
      at_value (λ b. ((not b && S j) ≡ true) ↔ InSet vs j) j k
      (λ e. ((λ t. absurd (true≢false (sym t))), λ t. absurd (o (rw e at t)))) (λ n. other_shows j n)

  shows_still : S k ≡ false → (InSet vs k → ⊥) → Shows vs S
  shows_still f o j = go (ℕ_discrete j k)
    where
      go : Dec (j ≡ k) → (S j ≡ true) ↔ InSet vs j
      go (yes e) = ((λ t. absurd (true≢false (sym t ∙ ap S e ∙ f))), λ t. absurd (o (rw e at t)))
      go (no n) = other_shows j n

-- a run has an answer
run_ends : {v : verdict.Verdict} {vs : List ℕ} {u : Worker} {ws : List ℕ} {w : Worker} {m : ℕ} → Runs v vs u ws w m → v ≢ verdict.going
run_ends (last n e) = n
run_ends (more e r) = run_ends r

out : (ws : List ℕ) {S : Values} → Shows ws S → (k : ℕ) → S k ≡ false → InSet ws k → ⊥
out ws h k f i = true≢false (sym ((h k).1 i) ∙ f)

-- what a work gives, by what the set type held
module _ {rest : List Item} (ws : List ℕ) {S : Values} {w : Worker} {k : ℕ} (h : Shows ws S) where
  looked : (f : Finishes ws w Lookup k) → ((vs : List ℕ) (T : Values) → Calm vs → Shows vs T → Served rest vs T) → Served (work w Lookup k ∷ rest) ws S
  unfolding responds values_after
  looked f next = answered h f (go (S k) refl) (next f.after (values_after Lookup S k) f.calm (subst (λ (x : List ℕ). Shows x S) (sym f.answers.words) h))
    where
      go : (b : Bool) → S k ≡ b → f.answer ≡ said (S k)
      go true e = f.answers.yes_exactly.1 ((h k).0 e) ∙ ap said (sym e)
      go false e = f.answers.no_exactly.1 (out ws h k e) ∙ ap said (sym e)

  removed : (f : Finishes ws w Remove k) → ((vs : List ℕ) (T : Values) → Calm vs → Shows vs T → Served rest vs T) → Served (work w Remove k ∷ rest) ws S
  unfolding responds
  removed f next =
      answered h f (go (S k) refl) (next f.after (values_after Remove S k) f.calm (shows_taken ws f.after h k f.answers.others f.answers.now_out))
    where
      go : (b : Bool) → S k ≡ b → f.answer ≡ said (S k)
      go true e = f.answers.yes_exactly.1 ((h k).0 e) ∙ ap said (sym e)
      go false e = f.answers.no_exactly.1 (out ws h k e) ∙ ap said (sym e)

  inserted : (f : Finishes ws w Insert k) → ((vs : List ℕ) (T : Values) → Calm vs → Shows vs T → Served rest vs T) → Served (work w Insert k ∷ rest) ws S
  unfolding responds
  inserted f next = go (S k) refl f.answer refl
    where
      in_now : InSet f.after k → f.answer ≡ said (not (S k)) → Served (work w Insert k ∷ rest) ws S
      in_now i e = answered h f e (next f.after (values_after Insert S k) f.calm (shows_put ws f.after h k f.answers.others i))

      go : (b : Bool) → S k ≡ b → (v : verdict.Verdict) → f.answer ≡ v → Served (work w Insert k ∷ rest) ws S
      go true e v a =
          let i = (h k).0 e in
          let n = f.answers.no_exactly.1 i in
          in_now (subst (λ (x : List ℕ). InSet x k) (sym (f.answers.words n)) i) (n ∙ ap (λ (b : Bool). said (not b)) (sym e))
      go false e verdict.going a = absurd (run_ends f.run a)
      go false e verdict.yes a = in_now (f.answers.now_in a) (a ∙ ap (λ (b : Bool). said (not b)) (sym e))
      go false e verdict.no a = absurd (out ws h k e (f.answers.no_exactly.0 a))
      go false e verdict.full a =
          let q = f.answers.full_exactly.0 a in
          too_full h f a e q.0 q.1 (next f.after S f.calm (shows_still ws f.after h k f.answers.others e (f.answers.still_out a)))

-- FROM A CALM TABLE
pub served : (items : List Item) → Proper items → (ws : List ℕ) (S : Values) → Calm ws → Shows ws S → Served items ws S
served [] p ws S c h = done h
served (work w Lookup k ∷ rest) p ws S c h = looked ws h (finishes ws w Lookup k c p.0 p.1) (served rest p.2)
served (work w Insert k ∷ rest) p ws S c h = inserted ws h (finishes ws w Insert k c p.0 p.1) (served rest p.2)
served (work w Remove k ∷ rest) p ws S c h = removed ws h (finishes ws w Remove k c p.0 p.1) (served rest p.2)
served (sweep ∷ rest) p ws S c h =
    let e = sweeps_calm ws c in
    let a = sweep_done ws e in
    swept h e (served rest p (sweep_words ws) S (swept_calm ws e) (λ j. ((λ t. (a.set j).1 ((h j).0 t)), λ t. (h j).1 ((a.set j).0 t))))
