-- A whole work on lent words: the loop of `in_words::to_end`, and what follows a start.
-- Assumes nothing.
use mathlib.Core.Path.{◌≡◌, refl, sym, ap, ◌∙◌, subst}
use mathlib.Core.Bool.{Bool, true, false, false≢true}
use mathlib.Core.List.{List}
use mathlib.Core.Logic.{◌≢◌}
use Prim.Native.Nat.{ℕ, ◌+◌, ◌≤◌, ◌<◌}
use native.Mathlib.Omega.{arith}
use Rattle.refusal.specs.Said.{Said, gives, refuses}
use Rattle.moment.proofs.Tests.{by_cases}
use Rattle.table.specs.Rules.{table_fine}
use Rattle.protocol.specs.Says.{Verdict, going, yes, no, full}
use Rattle.protocol.specs.Step.{Call, step_of}
use Rattle.protocol.specs.Calls.{start_of}
use Rattle.runs.specs.Whole.{most_steps, Ran, goes_on, begun, steps_of, rest_of, whole_of}
use Rattle.protocol.specs.declared.Kind.{Kind}
use Rattle.protocol.specs.declared.Worker.{Worker}
use Rattle.protocol.proofs.CallLaws.{start_ends, start_refused}
use Rattle.runs.proofs.Whole.{going_on, Made, made_none, made_one, made_last, made_all, whole_refused}
use Rattle.records.specs.Records.{words_of, worker_of, is_record}
use Rattle.records.proofs.Canonical.{words_read, words_record, record_words}
use Rattle.calls.specs.Numbers.{verdict_number, number}
use Rattle.calls.specs.Workers.{unread_number, call_number, call_record, call_words, Comes}
use Rattle.runs.specs.Running.{steps_made}
use Rattle.calls.proofs.Answers.{Told, verdict, table, idle, damaged, readers, step_told}

-- WHAT A CALL ON LENT WORDS CAME TO, where they are a record and where they are none

module _ {A : Type 0} (f : Said A → ℕ) (ws s : List ℕ) (c : Call A) {n : ℕ} {t vs : List ℕ} where
  of_record : is_record s ≡ true → Comes f ws s c n t vs → (n ≡ f c.says) × (t ≡ words_of c.worker) × (vs ≡ c.words)
  unfolding call_number call_record call_words
  of_record r p = (rw r at p.0, rw r at p.1, rw r at p.2)

  of_none : is_record s ≡ false → Comes f ws s c n t vs → (n ≡ unread_number ws) × (t ≡ s) × (vs ≡ ws)
  unfolding call_number call_record call_words
  of_none r p = (rw r at p.0, rw r at p.1, rw r at p.2)

  as_record : is_record s ≡ true → n ≡ f c.says → t ≡ words_of c.worker → vs ≡ c.words → Comes f ws s c n t vs
  unfolding call_number call_record call_words
  as_record r a b d = (rw r a, rw r b, rw r d)

  as_none : is_record s ≡ false → n ≡ unread_number ws → t ≡ s → vs ≡ ws → Comes f ws s c n t vs
  unfolding call_number call_record call_words
  as_none r a b d = (rw r a, rw r b, rw r d)

unread_refused : (ws : List ℕ) → unread_number ws ≢ 0
unfolding unread_number
unread_refused ws = by_cases (λ (n : ℕ). n ≢ 0) (table_fine ws) (λ e z. absurd (omega arith)) (λ e z. absurd (omega arith))

-- a step's number is 0 exactly if it goes on
going_told : (s : Said Verdict) → Told s → verdict_number s ≡ 0 → s ≡ gives going
going_told s (verdict going t) e = t
going_told s (verdict yes t) e = absurd (omega (arith, ap verdict_number t))
going_told s (verdict no t) e = absurd (omega (arith, ap verdict_number t))
going_told s (verdict full t) e = absurd (omega (arith, ap verdict_number t))
going_told s (table t) e = absurd (omega (arith, ap verdict_number t))
going_told s (idle t) e = absurd (omega (arith, ap verdict_number t))
going_told s (damaged t) e = absurd (omega (arith, ap verdict_number t))
going_told s (readers t) e = absurd (omega (arith, ap verdict_number t))

going_number : (ws : List ℕ) (w : Worker) → verdict_number (step_of ws w).says ≡ 0 → (step_of ws w).says ≡ gives going
going_number ws w e = going_told _ (step_told ws w) e

zero_goes : (ws : List ℕ) (w : Worker) → verdict_number (step_of ws w).says ≡ 0 → goes_on (step_of ws w).says ≡ true
zero_goes ws w e = ap goes_on (going_number ws w e)

other_ends : (s : Said Verdict) (b : Bool) → goes_on s ≡ b → verdict_number s ≢ 0 → b ≡ false
other_ends s true e n = absurd (n (ap verdict_number (going_on s e)))
other_ends s false e n = refl

-- THE LOOP: of at most `most` steps from ws and s, `made` were made and led to vs and t. Of words that are no record none is
pub record Lasts (most : ℕ) (ws s : List ℕ) (made : ℕ) (vs t : List ℕ) : Type 0 where
  pub reads : is_record t ≡ is_record s
  pub of_a_record : is_record s ≡ true → Made most ws (worker_of s) made vs (worker_of t)
  pub of_no_record : is_record s ≡ false → (made ≡ 0) × (t ≡ s) × (vs ≡ ws)

pub lasts_none : (most : ℕ) (ws s : List ℕ) → Lasts most ws s 0 ws s
lasts_none most ws s =
    record { reads = refl; of_a_record = λ r. made_none most ws (worker_of s); of_no_record = λ r. (refl, refl, refl) }

-- what the steps come to
abbrev pub ToEnd : ℕ → List ℕ → List ℕ → ℕ → ℕ → List ℕ → List ℕ → Type 0
ToEnd most ws s n made t vs =
    Comes verdict_number ws s (steps_of most ws (worker_of s)).call n t vs × (made ≡ steps_made s (steps_of most ws (worker_of s)))

module _ {most : ℕ} {ws s : List ℕ} {made : ℕ} {vs t : List ℕ} (m : Lasts most ws s made vs t) where
  one_more : {n : ℕ} {t' vs' : List ℕ} → made < most → Comes verdict_number vs t (step_of vs (worker_of t)) n t' vs' → n ≡ 0
      → (b : Bool) → is_record s ≡ b → Lasts most ws s (made + 1) vs' t'
  one_more {n} {t'} {vs'} l p z true r =
      let q = of_record verdict_number vs t (step_of vs (worker_of t)) (m.reads ∙ r) p in
      let k = made_one (m.of_a_record r) l (zero_goes vs (worker_of t) (sym q.0 ∙ z)) in
      let e = sym (ap worker_of q.1 ∙ words_read (step_of vs (worker_of t)).worker) in
      record {
        reads = ap is_record q.1 ∙ words_record (step_of vs (worker_of t)).worker ∙ sym r;
        of_a_record = λ r. subst (λ (x : List ℕ). Made most ws (worker_of s) (made + 1) x (worker_of t')) (sym q.2)
            (subst (λ (x : Worker). Made most ws (worker_of s) (made + 1) (step_of vs (worker_of t)).words x) e k);
        of_no_record = λ o. absurd (false≢true (sym o ∙ r));
      }
  one_more {n} {t'} {vs'} l p z false r =
      let q = of_none verdict_number vs t (step_of vs (worker_of t)) (m.reads ∙ r) p in
      absurd (unread_refused vs (sym q.0 ∙ z))

  the_last : {n : ℕ} {t' vs' : List ℕ} → made < most → Comes verdict_number vs t (step_of vs (worker_of t)) n t' vs' → n ≢ 0
      → (b : Bool) → is_record s ≡ b → ToEnd most ws s n (made + 1) t' vs'
  unfolding steps_made
  the_last {n} {t'} {vs'} l p z true r =
      let q = of_record verdict_number vs t (step_of vs (worker_of t)) (m.reads ∙ r) p in
      let g = other_ends (step_of vs (worker_of t)).says _ refl (λ e. z (q.0 ∙ e)) in
      let e = sym (made_last (m.of_a_record r) l g) in (
        as_record verdict_number ws s _ r (q.0 ∙ ap (λ (x : Ran). verdict_number x.call.says) e)
            (q.1 ∙ ap (λ (x : Ran). words_of x.call.worker) e) (q.2 ∙ ap (λ (x : Ran). x.call.words) e),
        rw r (ap (λ (x : Ran). x.steps) e),
      )
  the_last {n} {t'} {vs'} l p z false r =
      let q = of_none verdict_number vs t (step_of vs (worker_of t)) (m.reads ∙ r) p in
      let o = m.of_no_record r in
      (as_none verdict_number ws s _ r (q.0 ∙ ap unread_number o.2) (q.1 ∙ o.1) (q.2 ∙ o.2), rw (r, o.0) refl)

  no_more : most ≤ made → 0 < most → (b : Bool) → is_record s ≡ b → ToEnd most ws s 0 most t vs
  unfolding steps_made
  no_more l h true r =
      let k : most ≡ made = omega (arith, l, (m.of_a_record r).within) in
      let e = sym (made_all (m.of_a_record r) l) in (
        as_record verdict_number ws s _ r (ap (λ (x : Ran). verdict_number x.call.says) e)
            (sym (record_words t (m.reads ∙ r)) ∙ ap (λ (x : Ran). words_of x.call.worker) e) (ap (λ (x : Ran). x.call.words) e),
        rw r (k ∙ ap (λ (x : Ran). x.steps) e),
      )
  no_more l h false r = absurd (omega (arith, (m.of_no_record r).0))

  pub lasts_one : {n : ℕ} {t' vs' : List ℕ} → made < most → Comes verdict_number vs t (step_of vs (worker_of t)) n t' vs' → n ≡ 0
      → Lasts most ws s (made + 1) vs' t'
  lasts_one l p z = one_more l p z (is_record s) refl

  pub lasts_last : {n : ℕ} {t' vs' : List ℕ} → made < most → Comes verdict_number vs t (step_of vs (worker_of t)) n t' vs' → n ≢ 0
      → ToEnd most ws s n (made + 1) t' vs'
  lasts_last l p z = the_last l p z (is_record s) refl

  pub lasts_all : most ≤ made → 0 < most → ToEnd most ws s 0 most t vs
  lasts_all l h = no_more l h (is_record s) refl

-- where these are the most steps of a worker alone
pub to_rest : {most : ℕ} (ws s : List ℕ) {n made : ℕ} {t vs : List ℕ} → most ≡ most_steps ws → ToEnd most ws s n made t vs
    → Comes verdict_number ws s (rest_of ws (worker_of s)).call n t vs × (made ≡ steps_made s (rest_of ws (worker_of s)))
unfolding rest_of
to_rest ws s {n} {made} {t} {vs} e d = subst (λ (k : ℕ). ToEnd k ws s n made t vs) e d

-- WHAT FOLLOWS A START

-- its number is 0 exactly if it is done
zero_done : (ws : List ℕ) (w : Worker) (kind : Kind) (key : ℕ) → number (start_of ws w kind key).says ≡ 0 → (start_of ws w kind key).says ≡ gives tt
zero_done ws w kind key =
    start_ends (λ (c : Call (Unit {0})). number c.says ≡ 0 → c.says ≡ gives tt) ws w kind key
    (λ t e. absurd (omega arith)) (λ t i e. absurd (omega arith)) (λ t i l e. absurd (omega arith)) (λ t i l b e. absurd (omega arith))
    (λ t i l b e. refl)

module _ (ws s : List ℕ) (kind : Kind) (key : ℕ) {n : ℕ} {t vs : List ℕ} (p : Comes number ws s (start_of ws (worker_of s) kind key) n t vs) where
  refusing : n ≢ 0 → (a : Said (Unit {0})) → (start_of ws (worker_of s) kind key).says ≡ a → (n ≡ number (start_of ws (worker_of s) kind key).says)
      → (n ≡ verdict_number (whole_of ws (worker_of s) kind key).call.says) × ((start_of ws (worker_of s) kind key).worker ≡ (whole_of ws (worker_of s) kind key).call.worker)
      × ((start_of ws (worker_of s) kind key).words ≡ (whole_of ws (worker_of s) kind key).call.words)
  refusing z (gives a) e q = absurd (z (q ∙ ap number e))
  refusing z (refuses k) e q =
      let f = sym (whole_refused ws (worker_of s) kind key k e) in
      let g = start_refused ws (worker_of s) kind key k e in (
        q ∙ ap number e ∙ ap (λ (x : Ran). verdict_number x.call.says) f,
        ap (λ (x : Call (Unit {0})). x.worker) g ∙ ap (λ (x : Ran). x.call.worker) f,
        ap (λ (x : Call (Unit {0})). x.words) g ∙ ap (λ (x : Ran). x.call.words) f,
      )

  not_begun : n ≢ 0 → (b : Bool) → is_record s ≡ b → Comes verdict_number ws s (whole_of ws (worker_of s) kind key).call n t vs
  not_begun z true r =
      let q = of_record number ws s (start_of ws (worker_of s) kind key) r p in
      let g = refusing z (start_of ws (worker_of s) kind key).says refl q.0 in
      as_record verdict_number ws s _ r g.0 (q.1 ∙ ap words_of g.1) (q.2 ∙ g.2)
  not_begun z false r =
      let q = of_none number ws s (start_of ws (worker_of s) kind key) r p in
      as_none verdict_number ws s _ r q.0 q.1 q.2

  begins : n ≡ 0 → {k : ℕ} {t' vs' : List ℕ} → Comes verdict_number vs t (rest_of vs (worker_of t)).call k t' vs'
      → (b : Bool) → is_record s ≡ b → Comes verdict_number ws s (whole_of ws (worker_of s) kind key).call k t' vs'
  unfolding whole_of
  begins z {k} {t'} {vs'} d true r =
      let q = of_record number ws s (start_of ws (worker_of s) kind key) r p in
      let u = (start_of ws (worker_of s) kind key).worker in
      let e = zero_done ws (worker_of s) kind key (sym q.0 ∙ z) in
      let f : rest_of vs (worker_of t) ≡ rest_of (start_of ws (worker_of s) kind key).words u =
      ap (λ (x : List ℕ). rest_of x (worker_of t)) q.2 ∙ ap (rest_of (start_of ws (worker_of s) kind key).words) (ap worker_of q.1 ∙ words_read u) in
      let h = f ∙ sym (ap (begun (start_of ws (worker_of s) kind key).words u) e) in
      let o = of_record verdict_number vs t _ (ap is_record q.1 ∙ words_record u) d in
      as_record verdict_number ws s _ r (o.0 ∙ ap (λ (x : Ran). verdict_number x.call.says) h) (o.1 ∙ ap (λ (x : Ran). words_of x.call.worker) h)
      (o.2 ∙ ap (λ (x : Ran). x.call.words) h)
  begins z d false r =
      let q = of_none number ws s (start_of ws (worker_of s) kind key) r p in
      absurd (unread_refused ws (sym q.0 ∙ z))

  pub whole_not_begun : n ≢ 0 → Comes verdict_number ws s (whole_of ws (worker_of s) kind key).call n t vs
  whole_not_begun z = not_begun z (is_record s) refl

  pub whole_begins : n ≡ 0 → {k : ℕ} {t' vs' : List ℕ} → Comes verdict_number vs t (rest_of vs (worker_of t)).call k t' vs'
      → Comes verdict_number ws s (whole_of ws (worker_of s) kind key).call k t' vs'
  whole_begins z d = begins z d (is_record s) refl
