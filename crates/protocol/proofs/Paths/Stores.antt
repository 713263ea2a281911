-- The kinds of store as pointwise facts, and what each does to chains and to what is reached. Assumes nothing.
use mathlib.Core.Path.{◌≡◌, refl, sym, ap, ap₂, ◌∙◌}
use mathlib.Core.Bool.{Bool, Bool-discrete}
use mathlib.Core.Logic.{◌⊎◌, inl, inr, ⊎_elim, ◌≢◌}
use Prim.Native.Nat.{ℕ, ◌≤◌, ◌<◌}
use native.Mathlib.Omega.{arith}
use native.Mathlib.Decide.{ℕ_discrete}
use lib.Dec.{ltb}
use Rattle.tree.specs.Reach.{Tab, top, kid, Reached}
use Rattle.tree.specs.Walk.{dir, next, On, here, down, Way}
use Rattle.tree.proofs.Paths.{via, stop_none, way_reached}
use Rattle.protocol.proofs.Paths.Shape.{Live, Shape, own_way, reached_some, unique_parent}

abbrev pub Spot : ℕ → Bool → ℕ → Bool → Type 0
Spot x s p d = (x ≡ p) × (s ≡ d)

pub spot : (x : ℕ) (s : Bool) (p : ℕ) (d : Bool) → Dec (Spot x s p d)
spot x s p d = go (ℕ_discrete x p) (Bool-discrete s d)
  where
    go : Dec (x ≡ p) → Dec (s ≡ d) → Dec ((x ≡ p) × (s ≡ d))
    go (yes e) (yes f) = yes (e, f)
    go (yes e) (no f) = no (λ h. f h.1)
    go (no e) f = no (λ h. e h.0)

-- keys and links stay
pub record Still (A B : Tab) : Type 0 where
  pub keys : (x : ℕ) → B.key x ≡ A.key x
  pub links : (x : ℕ) (d : Bool) → B.link x d ≡ A.link x d

-- recolour and kill: live slot s gets state v
pub record Stated (A B : Tab) (s v : ℕ) : Type 0 where
  pub still : Still A B
  pub there : B.state s ≡ v
  pub states : (x : ℕ) → x ≢ s → B.state x ≡ A.state x
  pub live : Live A s
  pub not_root : s ≢ 0
  pub range : (0 < v) × (v ≤ 3)
  pub two : (d : Bool) → v ≡ 2 → A.link s d ≢ 0

-- bypass and cut: the link (g, d) leads to c, no longer to v; v goes out, and with it w (which may be v itself)
pub record Bypass (A B : Tab) (g : ℕ) (d : Bool) (v c w : ℕ) : Type 0 where
  pub keys : (x : ℕ) → B.key x ≡ A.key x
  pub states : (x : ℕ) → B.state x ≡ A.state x
  pub there : B.link g d ≡ c
  pub rest : (x : ℕ) (s : Bool) → (Spot x s g d → ⊥) → B.link x s ≡ A.link x s
  pub was : A.link g d ≡ v
  pub some : v ≢ 0
  pub one : (s : Bool) → (A.link v s ≡ 0) ⊎ ((A.link v s ≡ c) ⊎ ((A.link v s ≡ w) × ((t : Bool) → A.link w t ≡ 0)))
  pub from : c ≢ 0 → (s : Bool) × (A.link v s ≡ c)
  pub under : (w ≡ v) ⊎ ((s : Bool) × (A.link v s ≡ w))
  pub other : w ≢ 0
  pub differ : c ≢ w
  pub live : Live A g
  pub dead : A.state v ≡ 3
  pub dead_too : A.state w ≡ 3
  pub two : (c ≢ 0) ⊎ (A.state g ≡ 1)

-- link-new: the free slot f gets key k, state data and no links, and hangs under (p, d)
pub record Append (A B : Tab) (p : ℕ) (d : Bool) (f k : ℕ) : Type 0 where
  pub key_there : B.key f ≡ k
  pub keys : (x : ℕ) → x ≢ f → B.key x ≡ A.key x
  pub state_there : B.state f ≡ 1
  pub states : (x : ℕ) → x ≢ f → B.state x ≡ A.state x
  pub there : B.link p d ≡ f
  pub none : (s : Bool) → B.link f s ≡ 0
  pub rest : (x : ℕ) (s : Bool) → x ≢ f → (Spot x s p d → ⊥) → B.link x s ≡ A.link x s
  pub free : A.state f ≡ 0
  pub live : Live A p
  pub empty : A.link p d ≡ 0
  pub apart : k ≢ A.key p
  pub side : dir A k p ≡ d
  pub way : Way A k p
  pub low : k < A.key 0

-- recolour, kill: chains and what is reached stay
pub back : {A B : Tab} → Still A B → Still B A
back e = record { keys = λ x. sym (e.keys x); links = λ x d. sym (e.links x d) }

pub still_next : {A B : Tab} (k x : ℕ) → Still A B → next B k x ≡ next A k x
still_next {A} {B} k x e = ap (B.link x) (ap (ltb k) (e.keys x)) ∙ e.links x (dir A k x)

pub still_on : {A B : Tab} {k y x : ℕ} → Still A B → On A k y x → On B k y x
still_on e here = here
still_on {A} {B} {k} e (down {x = x} h n t) = via (next A k x) (rw (e.keys x) h) (still_next k x e) n (still_on e t)

pub still_reached : {A B : Tab} {y : ℕ} → Still A B → Reached A y → Reached B y
still_reached e (top z) = top z
still_reached e (kid {p = p} d r f n) = kid d (still_reached e r) (e.links p d ∙ f) n

-- bypass and cut
module _ {A B : Tab} {g : ℕ} {d : Bool} {v c w : ℕ} (b : Bypass A B g d v c w) where
  -- K1: what is on the way stays on it, but for v and w
  past : {k y x : ℕ} → y ≢ w → x ≡ v → next A k x ≢ 0 → On A k y (next A k x) → next A k x ≡ c
  past {k} {y} {x} o e n t = go (b.one (dir A k x))
    where
      f : A.link v (dir A k x) ≡ next A k x
      f = ap (λ (a : ℕ). A.link a (dir A k x)) (sym e)

      go : (A.link v (dir A k x) ≡ 0) ⊎ ((A.link v (dir A k x) ≡ c) ⊎ ((A.link v (dir A k x) ≡ w) × ((t : Bool) → A.link w t ≡ 0))) → next A k x ≡ c
      go (inl z) = absurd (n (sym f ∙ z))
      go (inr (inl z)) = sym f ∙ z
      go (inr (inr (z, q))) = absurd (o (sym (stop_none (q (dir A k w)) (rw (sym f ∙ z) at t))))

  keep_all : {k y x : ℕ} → y ≢ v → y ≢ w → On A k y x → On B k y x × (x ≡ v → (c ≢ 0) × On B k y c)
  keep_all o o' here = (here, λ e. absurd (o e))
  keep_all {k} {y} o o' (down {x = x} h n t) = both (keep_all o o' t)
    where
      same : dir B k x ≡ dir A k x
      same = ap (ltb k) (b.keys x)

      h' : k ≢ B.key x
      h' = rw (b.keys x) h

      go : Dec (Spot x (dir A k x) g d) → On B k y (next A k x) × (next A k x ≡ v → (c ≢ 0) × On B k y c) → On B k y x
      go (yes e) ih =
          let z = ih.1 (ap₂ A.link e.0 e.1 ∙ b.was) in
          via c h' (ap₂ B.link e.0 (same ∙ e.1) ∙ b.there) z.0 z.1
      go (no e) ih = via (next A k x) h' (ap (B.link x) same ∙ b.rest x (dir A k x) e) n ih.0

      both : On B k y (next A k x) × (next A k x ≡ v → (c ≢ 0) × On B k y c) → On B k y x × (x ≡ v → (c ≢ 0) × On B k y c)
      both ih = (go (spot x (dir A k x) g d) ih, λ e. let q = past o' e n t in (rw q at n, rw q at ih.0))

  pub keep_on : {k y x : ℕ} → y ≢ v → y ≢ w → On A k y x → On B k y x
  keep_on o o' t = (keep_all o o' t).0

  -- K2: what is gained hangs under g
  pub gain_on : {k y x : ℕ} → On B k y x → On A k y x ⊎ (On A k g x × (k ≢ A.key g) × (dir A k g ≡ d) × (c ≢ 0) × On A k y c)
  gain_on here = inl here
  gain_on {k} {y} (down {x = x} h n t) = go (spot x (dir A k x) g d) (gain_on t)
    where
      same : dir B k x ≡ dir A k x
      same = ap (ltb k) (b.keys x)

      h' : k ≢ A.key x
      h' = rw (b.keys x) at h

      Gain : ℕ → Type 0
      Gain z = On A k y z ⊎ (On A k g z × (k ≢ A.key g) × (dir A k g ≡ d) × (c ≢ 0) × On A k y c)

      go : Dec (Spot x (dir A k x) g d) → Gain (next B k x) → Gain x
      go (yes e) ih =
          let q : next B k x ≡ c = ap₂ B.link e.0 (same ∙ e.1) ∙ b.there in
          let hg : k ≢ A.key g = rw e.0 at h' in
          let dg : dir A k g ≡ d = ap (dir A k) (sym e.0) ∙ e.1 in
          let ih' : Gain c = rw q at ih in
          inr (rw e.0 here, hg, dg, rw q at n, ⊎_elim (λ u. u) (λ u. u.4) ih')
      go (no e) ih =
          let q : next A k x ≡ next B k x = sym (ap (B.link x) same ∙ b.rest x (dir A k x) e) in
          ⊎_elim (λ u. inl (via (next B k x) h' q n u)) (λ u. inr (via (next B k x) h' q n u.0, u.1, u.2, u.3, u.4)) ih

  -- K3: v and w, and nothing else, are no longer reached
  module _ {rho : ℕ → ℕ} (s : Shape A rho) where
    pub g_reached : Reached A g
    g_reached = s.alive g b.live

    pub v_reached : Reached A v
    v_reached = kid d g_reached b.was b.some

    pub lost : {y : ℕ} → Reached B y → Reached A y × (y ≢ v) × (y ≢ w)
    lost (top e) = (top e, (λ z. b.some (sym z ∙ e)), (λ z. b.other (sym z ∙ e)))
    lost {y} (kid {p = p} a r e n) = go (spot p a g d) (lost r)
      where
        c_not_v : c ≢ 0 → c ≢ v
        c_not_v m z =
            let q = b.from m in
            let l = (s.rank v c q.0 (reached_some s v_reached) q.1 m).1 in
            let l' : rho v < rho v = rw z at l in
            omega arith

        go : Dec (Spot p a g d) → Reached A p × (p ≢ v) × (p ≢ w) → Reached A y × (y ≢ v) × (y ≢ w)
        go (yes z) ih =
            let q : c ≡ y = sym b.there ∙ sym (ap₂ B.link z.0 z.1) ∙ e in
            let m : c ≢ 0 = rw q n in
            (rw q at (kid (b.from m).0 v_reached (b.from m).1 m), (λ u. c_not_v m (q ∙ u)), (λ u. b.differ (q ∙ u)))
        go (no z) ih =
            let f : A.link p a ≡ y = sym (b.rest p a z) ∙ e in (
              kid a ih.0 f n,
              (λ u. z (unique_parent s a d ih.0 g_reached f (b.was ∙ sym u) n)),
              (λ u. ⊎_elim
                  (λ i. z (unique_parent s a d ih.0 g_reached f (b.was ∙ sym i ∙ sym u) n))
                  (λ i. ih.1 (unique_parent s a i.0 ih.0 v_reached f (i.1 ∙ sym u) n).0)
                  b.under),
            )

    pub stay_reached : {y : ℕ} → Reached A y → y ≢ v → y ≢ w → Reached B y
    stay_reached r o o' = way_reached (keep_on o o' (own_way s r))

    pub live_out : {y : ℕ} → Live A y → (y ≢ v) × (y ≢ w)
    live_out {y} l =
        ((λ z. let e : A.state y ≡ 3 = ap A.state z ∙ b.dead in omega arith), (λ z. let e : A.state y ≡ 3 = ap A.state z ∙ b.dead_too in omega arith))

-- link-new
module _ {A B : Tab} {p : ℕ} {d : Bool} {f k : ℕ} (b : Append A B p d f k) {rho : ℕ → ℕ} (s : Shape A rho) where
  pub not_new : {x : ℕ} → A.state x ≢ 0 → x ≢ f
  not_new n e = n (ap A.state e ∙ b.free)

  pub new_some : f ≢ 0
  new_some e = let z = sym (ap A.state e) ∙ b.free in let y = s.root_data in omega arith

  pub p_old : p ≢ f
  p_old = not_new (λ z. let l = b.live in omega arith)

  old_dir : (k x : ℕ) → A.state x ≢ 0 → dir B k x ≡ dir A k x
  old_dir k x n = ap (ltb k) (b.keys x (not_new n))

  pub kept_on : {k y x : ℕ} → A.state x ≢ 0 → On A k y x → On B k y x
  kept_on m here = here
  kept_on {k} {y} m (down {x = x} h n t) =
      via (next A k x) (rw (b.keys x (not_new m)) h)
      (ap (B.link x) (old_dir k x m) ∙ b.rest x (dir A k x) (not_new m) (λ e. n (ap₂ A.link e.0 e.1 ∙ b.empty)))
      n (kept_on (s.rank x (next A k x) (dir A k x) m refl n).0 t)

  pub new_on : {k y x : ℕ} → A.state x ≢ 0 → On B k y x → On A k y x ⊎ ((y ≡ f) × On A k p x × (k ≢ A.key p) × (dir A k p ≡ d))
  new_on m here = inl here
  new_on {k} {y} m (down {x = x} h n t) = go (spot x (dir A k x) p d) (λ j. new_on j t)
    where
      h' : k ≢ A.key x
      h' = rw (b.keys x (not_new m)) at h

      New : ℕ → Type 0
      New z = On A k y z ⊎ ((y ≡ f) × On A k p z × (k ≢ A.key p) × (dir A k p ≡ d))

      go : Dec (Spot x (dir A k x) p d) → (A.state (next B k x) ≢ 0 → New (next B k x)) → New x
      go (yes e) ih =
          let q : next B k x ≡ f = ap₂ B.link e.0 (old_dir k x m ∙ e.1) ∙ b.there in
          let t' : On B k y f = rw q at t in
          inr (sym (stop_none (b.none (dir B k f)) t'), rw e.0 here, rw e.0 at h', ap (dir A k) (sym e.0) ∙ e.1)
      go (no e) ih =
          let q : next A k x ≡ next B k x = sym (ap (B.link x) (old_dir k x m) ∙ b.rest x (dir A k x) (not_new m) e) in
          ⊎_elim (λ u. inl (via (next B k x) h' q n u)) (λ u. inr (u.0, via (next B k x) h' q n u.1, u.2, u.3))
          (ih (s.rank x (next B k x) (dir A k x) m q n).0)

  pub kept_reached : {y : ℕ} → Reached A y → Reached B y
  kept_reached (top e) = top e
  kept_reached (kid {p = q} a r e n) =
      kid a (kept_reached r) (b.rest q a (not_new (reached_some s r)) (λ z. n (sym e ∙ ap₂ A.link z.0 z.1 ∙ b.empty)) ∙ e) n

  pub f_reached : Reached B f
  f_reached = kid d (kept_reached (s.alive p b.live)) b.there new_some

  pub new_reached : {y : ℕ} → Reached B y → Reached A y ⊎ (y ≡ f)
  new_reached (top e) = inl (top e)
  new_reached {y} (kid {p = q} a r e n) = go (spot q a p d) (new_reached r)
    where
      go : Dec (Spot q a p d) → Reached A q ⊎ (q ≡ f) → Reached A y ⊎ (y ≡ f)
      go i (inr z) = absurd (n (sym e ∙ ap (λ (o : ℕ). B.link o a) z ∙ b.none a))
      go (yes i) (inl r') = inr (sym e ∙ ap₂ B.link i.0 i.1 ∙ b.there)
      go (no i) (inl r') = inl (kid a r' (sym (b.rest q a (not_new (reached_some s r')) i) ∙ e) n)
