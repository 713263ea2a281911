-- Each kind of store keeps the table of a lone worker in shape; what it does to the set, and to what is reached. The laws of
-- Paths, seen through the veil. Assumes nothing.
use mathlib.Core.Path.{◌≡◌, refl, sym, ap, ◌∙◌}
use mathlib.Core.Bool.{Bool, true, false, cond}
use mathlib.Core.Logic.{◌↔◌, ◌⊎◌, inl, inr, ⊎_elim, ◌≢◌}
use Prim.Native.Nat.{ℕ}
use native.Mathlib.Omega.{arith}
use native.Mathlib.Decide.{ℕ_discrete}
use Rattle.moment.specs.Key.{legal_of}
use Rattle.tree.specs.Reach.{Tab, kid, Reached, Has}
use Rattle.protocol.proofs.Paths.Shape.{Live, Shape}
use Rattle.protocol.proofs.Paths.Stores.{Stated, Bypass, Append, back, still_reached, lost, new_reached}
use Rattle.protocol.proofs.Paths.Kept.{shape_stated, stated_set, set_stated, stated_in, stated_out, only_in, shape_bypass, bypass_set, set_bypass, new_rho, shape_append, append_new, append_in, append_set, set_append}
use Rattle.protocol.proofs.Alone.Veil.{veil, state_at, link_at, reached_out, has_out, both, Grown, clean, way_in, grown_has, grown_alive}

module _ {D : ℕ → Bool} {A : Tab} (g : Grown D A) where
  -- a live slot is not veiled
  pub live_shown : (s : ℕ) → Live A s → D s ≡ false
  live_shown s l = clean g s (grown_alive g s l)

  live_veiled : (s : ℕ) → Live A s → Live (veil D A) s
  live_veiled s l = rw (state_at D A s (live_shown s l)) l

  -- A STATE
  module _ {B : Tab} {s v : ℕ} (b : Stated A B s v) where
    hid : D s ≡ false
    hid = live_shown s b.live

    veil_stated : Stated (veil D A) (veil D B) s v
    veil_stated =
        record {
          still = record { keys = b.still.keys; links = λ x d. ap (cond (D x) 0) (b.still.links x d) };
          there = state_at D B s hid ∙ b.there;
          states = λ x n. ap (cond (D x) 0) (b.states x n);
          live = live_veiled s b.live;
          not_root = b.not_root;
          range = b.range;
          two = λ d e. rw (link_at D A s d hid) (b.two d e);
        }

    pub stated_back : {y : ℕ} → Reached B y → Reached A y
    stated_back r = still_reached (back b.still) r

    pub grown_stated : Grown D B
    grown_stated =
        record {
          rho = g.rho;
          shape = shape_stated veil_stated g.shape;
          gone = λ i e. b.states i (λ z. veiled_not i e z) ∙ g.gone i e;
          legal = λ y r n. rw (b.still.keys y) (g.legal y (stated_back r) n);
        }
      where
        veiled_not : (i : ℕ) → D i ≡ true → i ≡ s → ⊥
        veiled_not i e z = let q = ap A.state (sym z) ∙ g.gone i e in let l = b.live in omega arith

    pub stated_others : (j : ℕ) → j ≢ A.key s → Has B j ↔ Has A j
    stated_others j n = (
      (λ h. has_out D A j (set_stated veil_stated g.shape j n (grown_has grown_stated j h))),
      λ h. has_out D B j (stated_set veil_stated g.shape j n (grown_has g j h)),
    )

    pub stated_now : v ≡ 1 → Has B (A.key s)
    stated_now e = has_out D B (A.key s) (stated_in veil_stated g.shape e)

    pub stated_none : v ≢ 1 → Has B (A.key s) → ⊥
    stated_none n h = stated_out veil_stated g.shape n (grown_has grown_stated (A.key s) h)

    -- a slot that is data neither before nor after
    pub stated_mute : v ≢ 1 → A.state s ≢ 1 → (j : ℕ) → Has B j ↔ Has A j
    stated_mute n m j = go (ℕ_discrete j (A.key s))
      where
        go : Dec (j ≡ A.key s) → Has B j ↔ Has A j
        go (yes e) =
            ((λ h. absurd (stated_none n (rw e at h))), λ h. absurd (m (sym (state_at D A s hid) ∙ only_in veil_stated g.shape (grown_has g (A.key s) (rw e at h)))))
        go (no e) = stated_others j e

  -- A LINK PAST DELETED SLOTS
  module _ {B : Tab} {p : ℕ} {d : Bool} {v c w : ℕ} (b : Bypass A B p d v c w) where
    at_p : D p ≡ false
    at_p = live_shown p b.live

    v_there : Reached A v
    v_there = kid d (grown_alive g p b.live) b.was b.some

    at_v : D v ≡ false
    at_v = clean g v v_there

    at_w : D w ≡ false
    at_w = ⊎_elim (λ e. rw e at_v) (λ u. clean g w (kid u.0 v_there u.1 b.other)) b.under

    veil_bypass : Bypass (veil D A) (veil D B) p d v c w
    veil_bypass =
        record {
          keys = b.keys;
          states = λ x. ap (cond (D x) 0) (b.states x);
          there = link_at D B p d at_p ∙ b.there;
          rest = λ x s n. ap (cond (D x) 0) (b.rest x s n);
          was = link_at D A p d at_p ∙ b.was;
          some = b.some;
          one = λ s. ⊎_elim (λ e. inl (link_at D A v s at_v ∙ e))
              (λ u. inr (⊎_elim (λ e. inl (link_at D A v s at_v ∙ e)) (λ q. inr (link_at D A v s at_v ∙ q.0, λ t. link_at D A w t at_w ∙ q.1 t)) u)) (b.one s);
          from = λ n. let u = b.from n in (u.0, link_at D A v u.0 at_v ∙ u.1);
          under = ⊎_elim inl (λ u. inr (u.0, link_at D A v u.0 at_v ∙ u.1)) b.under;
          other = b.other;
          differ = b.differ;
          live = live_veiled p b.live;
          dead = state_at D A v at_v ∙ b.dead;
          dead_too = state_at D A w at_w ∙ b.dead_too;
          two = ⊎_elim inl (λ e. inr (state_at D A p at_p ∙ e)) b.two;
        }

    bypass_shape : Shape (veil D B) g.rho
    bypass_shape = shape_bypass veil_bypass g.shape

    -- v and w are no longer reached, and nothing else is new
    pub bypass_back : {y : ℕ} → Reached B y → Reached A y × (y ≢ v) × (y ≢ w)
    bypass_back r = let h = lost veil_bypass g.shape (both D B bypass_shape r).0 in (reached_out D A h.0, h.1, h.2)

    pub grown_bypass : Grown D B
    grown_bypass =
        record {
          rho = g.rho;
          shape = bypass_shape;
          gone = λ i e. b.states i ∙ g.gone i e;
          legal = λ y r n. rw (b.keys y) (g.legal y (bypass_back r).0 n);
        }

    pub bypass_same : (j : ℕ) → Has B j ↔ Has A j
    bypass_same j = (
      (λ h. has_out D A j (set_bypass veil_bypass g.shape j (grown_has grown_bypass j h))),
      λ h. has_out D B j (bypass_set veil_bypass g.shape j (grown_has g j h)),
    )

  -- A NEW SLOT
  module _ {B : Tab} {p : ℕ} {d : Bool} {f k : ℕ} (b : Append A B p d f k) (legal : legal_of k ≡ true) where
    at_q : D p ≡ false
    at_q = live_shown p b.live

    at_f : D f ≡ false
    at_f = go (D f) refl
      where
        go : (t : Bool) → D f ≡ t → D f ≡ false
        go true e = let q = g.gone f e in let z = b.free in absurd (omega arith)
        go false e = e

    veil_append : Append (veil D A) (veil D B) p d f k
    veil_append =
        record {
          key_there = b.key_there;
          keys = b.keys;
          state_there = state_at D B f at_f ∙ b.state_there;
          states = λ x n. ap (cond (D x) 0) (b.states x n);
          there = link_at D B p d at_q ∙ b.there;
          none = λ s. link_at D B f s at_f ∙ b.none s;
          rest = λ x s n m. ap (cond (D x) 0) (b.rest x s n m);
          free = state_at D A f at_f ∙ b.free;
          live = live_veiled p b.live;
          empty = link_at D A p d at_q ∙ b.empty;
          apart = b.apart;
          side = b.side;
          way = way_in g b.way;
          low = b.low;
        }

    append_shape : Shape (veil D B) (new_rho veil_append g.shape)
    append_shape = shape_append veil_append g.shape

    pub append_back : {y : ℕ} → Reached B y → Reached A y ⊎ (y ≡ f)
    append_back r = ⊎_elim (λ h. inl (reached_out D A h)) inr (new_reached veil_append g.shape (both D B append_shape r).0)

    old : (i : ℕ) → A.state i ≢ 0 → i ≢ f
    old i n e = n (ap A.state e ∙ b.free)

    pub grown_append : Grown D B
    grown_append =
        record {
          rho = new_rho veil_append g.shape;
          shape = append_shape;
          gone = λ i e. let q = g.gone i e in b.states i (old i (λ z. omega arith)) ∙ q;
          legal = λ y r n. go y r n (ℕ_discrete y f);
        }
      where
        go : (y : ℕ) → Reached B y → y ≢ 0 → Dec (y ≡ f) → legal_of (B.key y) ≡ true
        go y r n (yes e) = rw (e, b.key_there) legal
        go y r n (no e) = rw (b.keys y e) (g.legal y (⊎_elim (λ h. h) (λ z. absurd (e z)) (append_back r)) n)

    pub append_out : Has A k → ⊥
    append_out h = append_new veil_append g.shape (grown_has g k h)

    pub append_now : Has B k
    append_now = has_out D B k (append_in veil_append g.shape)

    pub append_others : (j : ℕ) → j ≢ k → Has B j ↔ Has A j
    append_others j n = (
      (λ h. has_out D A j (set_append veil_append g.shape j n (grown_has grown_append j h))),
      λ h. has_out D B j (append_set veil_append g.shape j (grown_has g j h)),
    )
