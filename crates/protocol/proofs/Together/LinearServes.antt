-- THE SET TYPE SERVES THEM: where works lead one after the other from moment to moment, the set type that begins with what the table
-- held responds as each of them said, and ends with what the table holds.
-- Assumes nothing.
use mathlib.Core.Path.{◌≡◌, refl, sym, ap, ◌∙◌, subst}
use mathlib.Core.Bool.{Bool, true, false, not}
use mathlib.Core.List.{List, [], ◌∷◌}
use mathlib.Core.Logic.{◌↔◌, ◌⊎◌, inl, inr, ⊎_elim, ◌≢◌}
use Prim.Native.Nat.{ℕ, suc}
use Rattle.refusal.specs.Said.{gives}
use Rattle.tree.specs.Reach.{InSet}
use Rattle.protocol.specs.Says as says
use Rattle.protocol.specs.Says.{Verdict, going, full}
use Rattle.protocol.specs.Alone.{NoneFree}
use Rattle.protocol.specs.Sets.{Values, responds, values_after, said, Shows}
use Rattle.protocol.specs.Together.{Asked, step, System, idle_at, moment, words_at, worker_at}
use Rattle.protocol.specs.TogetherPromise.{SameSet, SameBut, ChangedBy, AsSet, Promise}
use Rattle.protocol.specs.Linear.{Entry, told, made, call_of, Began, InTurn}
use Rattle.protocol.specs.declared.Kind.{Kind}
use Rattle.protocol.specs.declared.Kind.TheVariants.{Lookup, Insert, Remove}
use Rattle.protocol.specs.declared.Work.{Work}
use Rattle.protocol.specs.declared.Work.TheVariants.{Busy}
use Rattle.protocol.proofs.Alone.Sequence.{shows_put, shows_taken}
use Rattle.protocol.proofs.Together.Called.{busy_is}
use Rattle.protocol.proofs.Together.LinearWorks.{changed_busy, yes_moves, ends_busy}
use Rattle.protocol.proofs.Together.LinearHistory.{Leads}

-- VALUES

shows_same : (ws vs : List ℕ) (S : Values) → Shows ws S → SameSet ws vs → Shows vs S
shows_same ws vs S h e j = ((λ t. (e j).0 ((h j).0 t)), (λ i. (h j).1 ((e j).1 i)))

absent : (ws : List ℕ) (S : Values) → Shows ws S → (key : ℕ) → (InSet ws key → ⊥) → S key ≡ false
absent ws S h key n = go (S key) refl
  where
    go : (b : Bool) → S key ≡ b → b ≡ false
    go true e = absurd (n ((h key).0 e))
    go false e = refl

module _ (ws vs : List ℕ) (S : Values) (h : Shows ws S) (key : ℕ) (others : SameBut key ws vs) where
  back : (j : ℕ) → j ≢ key → InSet vs j ↔ InSet ws j
  back j n = ((others j n).1, (others j n).0)

  put_shows : InSet vs key → Shows vs (values_after Insert S key)
  put_shows i = shows_put ws vs h key back i

  taken_shows : (InSet vs key → ⊥) → Shows vs (values_after Remove S key)
  taken_shows o = shows_taken ws vs h key back o

looked : (ws : List ℕ) (S : Values) (key : ℕ) → Shows ws S → Shows ws (values_after Lookup S key)
unfolding values_after
looked ws S key h = h

unmoved : (ws : List ℕ) (key : ℕ) → SameBut key ws ws
unmoved ws key k n = ((λ x. x), (λ x. x))

-- ONE WORK

-- as the set type responds; or full
abbrev Fits : Kind → ℕ → Verdict → List ℕ → Values → Type 0
Fits kind key v ws S =
    ((v ≡ said (responds kind S key)) × Shows ws (values_after kind S key)) ⊎ ((kind ≡ Insert) × (v ≡ full) × (S key ≡ false) × NoneFree ws)

told_fits : (kind : Kind) (key : ℕ) (v : Verdict) (ws : List ℕ) (S : Values) → v ≢ going → Shows ws S → AsSet (Busy kind) key v ws ws → Fits kind key v ws S
unfolding responds
told_fits kind key going ws S n h t = absurd (n refl)
told_fits Lookup key says.yes ws S n h t = inl (sym (ap said ((h key).1 t.0)), looked ws S key h)
told_fits Insert key says.yes ws S n h t = absurd (yes_moves (Busy Insert) key ws tt t)
told_fits Remove key says.yes ws S n h t = absurd (yes_moves (Busy Remove) key ws tt t)
told_fits Lookup key says.no ws S n h t = inl (sym (ap said (absent ws S h key t.0)), looked ws S key h)
told_fits Insert key says.no ws S n h t = inl (sym (ap (λ (b : Bool). said (not b)) ((h key).1 t.0)), put_shows ws ws S h key (unmoved ws key) t.0)
told_fits Remove key says.no ws S n h t = inl (sym (ap said (absent ws S h key t.0)), taken_shows ws ws S h key (unmoved ws key) t.0)
told_fits Lookup key full ws S n h t = absurd t
told_fits Insert key full ws S n h t = inr (refl, refl, absent ws S h key t.0, t.1)
told_fits Remove key full ws S n h t = absurd t

made_fits : (kind : Kind) (key : ℕ) (ws vs : List ℕ) (S : Values) → Shows ws S → ChangedBy (Busy kind) key ws vs
    → (said (responds kind S key) ≡ says.yes) × Shows vs (values_after kind S key)
unfolding responds
made_fits Lookup key ws vs S h c = absurd c
made_fits Insert key ws vs S h c = (ap (λ (b : Bool). said (not b)) (absent ws S h key c.0), put_shows ws vs S h key c.2 c.1)
made_fits Remove key ws vs S h c = (ap said ((h key).1 c.0), taken_shows ws vs S h key c.2 c.1)

-- ALL OF THEM

module _ (asked : ℕ → Asked) (s : System) (p : Promise asked s) where
  abbrev Whose : Entry → ℕ → Type 0
  Whose x a = (kind : Kind) × ((worker_at asked s (call_of x) a).work ≡ Busy kind) × ((j : ℕ) × Began asked s x a j kind (worker_at asked s (call_of x) a).key)

  whose : (x : Entry) (a : ℕ) → asked (call_of x) ≡ step a → idle_at (moment asked s (call_of x)) a ≡ false → Whose x a
  whose x a q b =
      let (kind, w) = busy_is (worker_at asked s (call_of x) a).work b in
      let (j, l, n, f, all) = p.works (call_of x) a kind w in (kind, w, (j, (q, n, f)))

  shown : (m n : ℕ) (S : Values) → Shows (words_at asked s m) S → SameSet (words_at asked s m) (words_at asked s n) → Shows (words_at asked s n) S
  shown m n S = shows_same (words_at asked s m) (words_at asked s n) S

  pub in_turn : (h : List Entry) (m n : ℕ) (S : Values) → Leads asked s h m n → Shows (words_at asked s m) S → InTurn asked s h S n
  in_turn [] m n S r h = shown m n S h r
  in_turn (told i ∷ rest) m n S (o, o', f, (e, (a, t, z)), r) h =
      let key = (worker_at asked s i a).key in
      let (kind, w, (j, g)) = whose (told i) a t.ends.0 (ends_busy asked s i a t.v t.ends) in
      let now = shown m t.m S h (subst (λ (x : ℕ). SameSet (words_at asked s m) (words_at asked s x)) (sym z) f) in
      let on = subst (λ (x : ℕ). Leads asked s rest x n) (e ∙ sym z) r in
      ⊎_elim
      (λ (y, k). (a, j, kind, key, values_after kind S key, g, inl (t.ends.1 ∙ ap gives y, refl), in_turn rest t.m n (values_after kind S key) on k))
      (λ (k, y, b, c). (a, j, kind, key, S, g, inr (k, t.ends.1 ∙ ap gives y, b, (t.m, t.since, t.until, now, c), refl), in_turn rest t.m n S on now))
      (told_fits kind key t.v (words_at asked s t.m) S t.ends.2 now
      (subst (λ (x : Work). AsSet x key t.v (words_at asked s t.m) (words_at asked s t.m)) w t.held))
  in_turn (made k ∷ rest) m n S (o, o', f, (e, e', (a, c)), r) h =
      let key = (worker_at asked s k a).key in
      let (kind, w, (j, g)) =
      whose (made k) a c.0 (changed_busy (worker_at asked s k a).work key (words_at asked s k) (words_at asked s (suc k)) c.1) in
      let now = shown m k S h (subst (λ (x : ℕ). SameSet (words_at asked s m) (words_at asked s x)) e f) in
      let on = subst (λ (x : ℕ). Leads asked s rest x n) e' r in
      let y = made_fits kind key (words_at asked s k) (words_at asked s (suc k)) S now
      (subst (λ (x : Work). ChangedBy x key (words_at asked s k) (words_at asked s (suc k))) w c.1) in
      (a, j, kind, key, values_after kind S key, g, inl (y.0, refl), in_turn rest (suc k) n (values_after kind S key) on y.1)
