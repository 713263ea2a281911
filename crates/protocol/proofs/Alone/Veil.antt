-- A table seen without the slots that lay deleted before the work: they are not reached, but a hand-made table may hold any
-- links in them. What is reached, walks and the set are the same; what is left of the table has a shape. Assumes nothing.
use mathlib.Core.Path.{◌≡◌, refl, sym, ◌∙◌}
use mathlib.Core.Bool.{Bool, true, false, cond}
use mathlib.Core.Logic.{◌≢◌}
use Prim.Native.Nat.{ℕ}
use native.Mathlib.Omega.{arith}
use Rattle.moment.specs.Key.{legal_of}
use Rattle.tree.specs.Reach.{Tab, top, kid, Reached, Has}
use Rattle.tree.specs.Walk.{dir, next, On, here, down, Way, Ordered}
use Rattle.tree.proofs.Paths.{via}
use Rattle.protocol.proofs.Paths.Shape.{Live, Shape, reached_some}

abbrev pub veil : (ℕ → Bool) → Tab → Tab
veil D A = record { state = λ i. cond (D i) 0 (A.state i); key = A.key; link = λ i d. cond (D i) 0 (A.link i d) }

module _ (D : ℕ → Bool) (A : Tab) where
  abbrev V' : Tab
  V' = veil D A

  pub state_at : (i : ℕ) → D i ≡ false → V'.state i ≡ A.state i
  state_at i e = rw e

  pub link_at : (i : ℕ) (d : Bool) → D i ≡ false → V'.link i d ≡ A.link i d
  link_at i d e = rw e

  shown : (b : Bool) (v : ℕ) → cond b 0 v ≢ 0 → b ≡ false
  shown true v n = absurd (n refl)
  shown false v n = refl

  pub state_shows : (i : ℕ) → V'.state i ≢ 0 → D i ≡ false
  state_shows i n = shown (D i) (A.state i) n

  pub link_shows : (i : ℕ) (d : Bool) → V'.link i d ≢ 0 → D i ≡ false
  link_shows i d n = shown (D i) (A.link i d) n

  -- what is reached and walked under the veil is so without it
  pub reached_out : {y : ℕ} → Reached V' y → Reached A y
  reached_out (top e) = top e
  reached_out (kid {p = p} d r e n) = kid d (reached_out r) (sym (link_at p d (link_shows p d (λ z. n (sym e ∙ z)))) ∙ e) n

  pub on_out : {k y x : ℕ} → On V' k y x → On A k y x
  on_out here = here
  on_out {k} (down {x = x} h n t) = via (next V' k x) h (sym (link_at x (dir A k x) (link_shows x (dir A k x) n))) n (on_out t)

  -- and the other way round, where nothing reached is veiled
  module _ (clean : (x : ℕ) → Reached A x → D x ≡ false) where
    pub reached_in : {y : ℕ} → Reached A y → Reached V' y
    reached_in (top e) = top e
    reached_in (kid {p = p} d r e n) = kid d (reached_in r) (link_at p d (clean p r) ∙ e) n

    pub on_in : {k y x : ℕ} → Reached A x → On A k y x → On V' k y x
    on_in r here = here
    on_in {k} r (down {x = x} h n t) =
        via (next A k x) h (link_at x (dir A k x) (clean x r)) n (on_in (kid (dir A k x) r refl n) t)

    pub has_in : (k : ℕ) → Has A k → Has V' k
    has_in k (y, n, s, e, r) = (y, n, state_at y (clean y r) ∙ s, e, reached_in r)

  pub has_out : (k : ℕ) → Has V' k → Has A k
  has_out k (y, n, s, e, r) = (y, n, sym (state_at y (state_shows y (λ z. let q = sym z ∙ s in omega arith))) ∙ s, e, reached_out r)

-- A TABLE OF A LONE WORKER: it has a shape but for the slots D, which are deleted; reached keys are legal
pub record Grown (D : ℕ → Bool) (A : Tab) : Type 0 where
  pub rho : ℕ → ℕ
  pub shape : Shape (veil D A) rho
  pub gone : (i : ℕ) → D i ≡ true → A.state i ≡ 3
  pub legal : (y : ℕ) → Reached A y → y ≢ 0 → legal_of (A.key y) ≡ true

-- what is reached is not veiled where the rest has a shape
pub both : (D : ℕ → Bool) (A : Tab) {rho : ℕ → ℕ} → Shape (veil D A) rho → {y : ℕ} → Reached A y → Reached (veil D A) y × (D y ≡ false)
both D A h (top e) = (top e, state_shows D A _ (reached_some h (top e)))
both D A h (kid {y = y} {p = p} d r e n) =
    let i = both D A h r in
    let q : Reached (veil D A) y = kid d i.0 (link_at D A p d i.1 ∙ e) n in
    (q, state_shows D A y (reached_some h q))

module _ {D : ℕ → Bool} {A : Tab} (g : Grown D A) where
  pub clean : (y : ℕ) → Reached A y → D y ≡ false
  clean y r = (both D A g.shape r).1

  pub in_veil : {y : ℕ} → Reached A y → Reached (veil D A) y
  in_veil r = (both D A g.shape r).0

  pub way_in : {k y : ℕ} → Way A k y → Way (veil D A) k y
  way_in w = on_in D A clean (top refl) w

  pub grown_has : (k : ℕ) → Has A k → Has (veil D A) k
  grown_has k h = has_in D A clean k h

  -- the clauses of a sound table
  pub grown_ordered : Ordered A
  grown_ordered p y d r e n =
      let h = both D A g.shape r in
      let k = g.shape.edge p y d h.0 (link_at D A p d h.1 ∙ e) n in
      record { apart = k.apart; side = k.side; way = on_out D A k.way }

  pub grown_some : (y : ℕ) → Reached A y → A.state y ≢ 0
  grown_some y r e = let h = both D A g.shape r in reached_some g.shape h.0 (state_at D A y h.1 ∙ e)

  pub grown_two : (x : ℕ) (d : Bool) → Reached A x → A.state x ≡ 2 → A.link x d ≢ 0
  grown_two x d r e n =
      let h = both D A g.shape r in
      g.shape.two x d (state_at D A x h.1 ∙ e) (link_at D A x d h.1 ∙ n)

  pub grown_alive : (i : ℕ) → Live A i → Reached A i
  grown_alive i l = go (D i) refl
    where
      go : (b : Bool) → D i ≡ b → Reached A i
      go true e = let q = g.gone i e in absurd (omega arith)
      go false e = reached_out D A (g.shape.alive i (rw (state_at D A i e) l))
