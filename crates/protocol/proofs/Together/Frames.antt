-- NO FRAME IS LOST AND NONE COMES BACK, from the promise alone: a key that is in stays in until a remove of that key takes it out at one
-- of its steps, and a key that is out stays out until an insert of that key puts it in.
-- Assumes nothing.
use mathlib.Core.Path.{◌≡◌, refl, sym, ◌∙◌}
use mathlib.Core.Logic.{◌⊎◌, inl, inr, ⊎_elim}
use Prim.Native.Nat.{ℕ, zero, suc, ◌+◌, ◌≤◌, ◌<◌}
use native.Mathlib.Omega.{arith}
use native.Mathlib.Decide.{ℕ_discrete}
use native.Mathlib.Nat.{zero-add, suc-add}
use Rattle.tree.specs.Reach.{InSet}
use Rattle.protocol.specs.Together.{Asked, step, System, words_at, worker_at}
use Rattle.protocol.specs.TogetherPromise.{ChangedBy, Promise}
use Rattle.protocol.specs.declared.Kind.{Kind}
use Rattle.protocol.specs.declared.Kind.TheVariants.{Lookup, Insert, Remove}
use Rattle.protocol.specs.declared.Work.{Work}
use Rattle.protocol.specs.declared.Work.TheVariants.{Idle, Busy}

module _ (asked : ℕ → Asked) (s : System) where
  -- between moments i and n a work of that kind with that key changed the set, at a step
  abbrev pub Turned : Kind → ℕ → ℕ → ℕ → Type 0
  Turned kind key i n =
      (j a : ℕ) × (i ≤ j) × (j < n) × (asked j ≡ step a) × ((worker_at asked s j a).work ≡ Busy kind) × ((worker_at asked s j a).key ≡ key)

  later : (kind : Kind) (key i n : ℕ) → Turned kind key i n → Turned kind key i (suc n)
  later kind key i n (j, a, l, m, q, w, k) = (j, a, l, omega arith, q, w, k)

module _ (asked : ℕ → Asked) (s : System) (p : Promise asked s) where
  -- one call, seen from a key that is in
  kept_by : (key i n a : ℕ) → i ≤ n → asked n ≡ step a → InSet (words_at asked s n) key → (w : Work) (k : ℕ) → (worker_at asked s n a).work ≡ w
      → (worker_at asked s n a).key ≡ k → ChangedBy w k (words_at asked s n) (words_at asked s (suc n))
      → InSet (words_at asked s (suc n)) key ⊎ Turned asked s Remove key i (suc n)
  kept_by key i n a l q h Idle k e f c = absurd c
  kept_by key i n a l q h (Busy Lookup) k e f c = absurd c
  kept_by key i n a l q h (Busy Insert) k e f c = go (ℕ_discrete key k)
    where
      go : Dec (key ≡ k) → InSet (words_at asked s (suc n)) key ⊎ Turned asked s Remove key i (suc n)
      go (yes z) = absurd (c.0 (rw z at h))
      go (no z) = inl ((c.2 key z).0 h)
  kept_by key i n a l q h (Busy Remove) k e f c = go (ℕ_discrete key k)
    where
      go : Dec (key ≡ k) → InSet (words_at asked s (suc n)) key ⊎ Turned asked s Remove key i (suc n)
      go (yes z) = inr (n, a, l, omega arith, q, e, f ∙ sym z)
      go (no z) = inl ((c.2 key z).0 h)

  -- and from one that is out
  out_by : (key i n a : ℕ) → i ≤ n → asked n ≡ step a → (InSet (words_at asked s n) key → ⊥) → (w : Work) (k : ℕ) → (worker_at asked s n a).work ≡ w
      → (worker_at asked s n a).key ≡ k → ChangedBy w k (words_at asked s n) (words_at asked s (suc n))
      → (InSet (words_at asked s (suc n)) key → ⊥) ⊎ Turned asked s Insert key i (suc n)
  out_by key i n a l q h Idle k e f c = absurd c
  out_by key i n a l q h (Busy Lookup) k e f c = absurd c
  out_by key i n a l q h (Busy Remove) k e f c = go (ℕ_discrete key k)
    where
      go : Dec (key ≡ k) → (InSet (words_at asked s (suc n)) key → ⊥) ⊎ Turned asked s Insert key i (suc n)
      go (yes z) = inl (λ x. c.1 (rw z at x))
      go (no z) = inl (λ x. h ((c.2 key z).1 x))
  out_by key i n a l q h (Busy Insert) k e f c = go (ℕ_discrete key k)
    where
      go : Dec (key ≡ k) → (InSet (words_at asked s (suc n)) key → ⊥) ⊎ Turned asked s Insert key i (suc n)
      go (yes z) = inr (n, a, l, omega arith, q, e, f ∙ sym z)
      go (no z) = inl (λ x. h ((c.2 key z).1 x))

  -- NO FRAME IS LOST: what is in at moment i is in d moments later, or a remove of it took it out
  pub not_lost : (key i d : ℕ) → InSet (words_at asked s i) key → InSet (words_at asked s (d + i)) key ⊎ Turned asked s Remove key i (d + i)
  not_lost key i zero h = rw zero-add (inl h)
  not_lost key i (suc d) h = rw suc-add (⊎_elim
      (λ x. ⊎_elim
      (λ e. inl ((e key).0 x))
      (λ (a, q, c). kept_by key i (d + i) a (omega arith) q x (worker_at asked s (d + i) a).work (worker_at asked s (d + i) a).key refl refl c)
      (p.changes (d + i)))
      (λ t. inr (later asked s Remove key i (d + i) t))
      (not_lost key i d h))

  -- NONE COMES BACK: what is out at moment i is out d moments later, or an insert of it put it in
  pub no_ghost : (key i d : ℕ) → (InSet (words_at asked s i) key → ⊥) → (InSet (words_at asked s (d + i)) key → ⊥) ⊎ Turned asked s Insert key i (d + i)
  no_ghost key i zero h = rw zero-add (inl h)
  no_ghost key i (suc d) h = rw suc-add (⊎_elim
      (λ x. ⊎_elim
      (λ e. inl (λ y. x ((e key).1 y)))
      (λ (a, q, c). out_by key i (d + i) a (omega arith) q x (worker_at asked s (d + i) a).work (worker_at asked s (d + i) a).key refl refl c)
      (p.changes (d + i)))
      (λ t. inr (later asked s Insert key i (d + i) t))
      (no_ghost key i d h))
