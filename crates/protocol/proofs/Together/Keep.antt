-- NO STORE OF ONE WORKER TAKES A GUARDED FACT FROM ANOTHER (`keep_fact`), and a key that is ahead of a walker stays
-- ahead or has just left the set (`keep_seen`).
-- Assumes nothing.
use mathlib.Core.Path.{◌≡◌, sym, ap, ap₂, ◌∙◌}
use mathlib.Core.Bool.{Bool, true}
use mathlib.Core.List.{List}
use mathlib.Core.Logic.{◌⊎◌, inl, inr, ⊎_elim, ◌≢◌}
use Prim.Native.Nat.{ℕ, suc}
use native.Mathlib.Omega.{arith}
use native.Mathlib.Decide.{ℕ_discrete}
use lib.Dec.{ltb}
use Rattle.table.specs.declared.Which.TheVariants.{State, Edge}
use Rattle.tree.specs.Reach.{Tab, Has}
use Rattle.tree.specs.Walk.{next, On, Way, Seen}
use Rattle.tree.proofs.Paths.{on_trans, snoc}
use Rattle.protocol.proofs.Paths.Shape.{Live, Shape, on_rank}
use Rattle.protocol.proofs.Paths.Stores.{Spot, spot, Bypass, Append, still_on, keep_on, gain_on, live_out, not_new, new_some, p_old, kept_on, new_on}
use Rattle.protocol.proofs.Paths.Kept.{stated_out, new_rho, raise_rest}
use Rattle.protocol.proofs.Together.Locks.{Held, Among}
use Rattle.protocol.proofs.Together.Facts.{hold, Fact, is_some, is_kid, is_key, not_key, turns, below, nears, leads, in_state, no_child, has_child, alive_by, alive, way_to, ways_from, slot_of, Says, Holds, Guard, Excl, Store, state, pass, add, rho_after, some_store, said_state}

module _ {A B : Tab} {g : ℕ} {d : Bool} {v c w : ℕ} (b : Bypass A B g d v c w) {rho : ℕ → ℕ} (h : Shape A rho) where
  pub keep_live_on : {k y x : ℕ} → Live A y → On A k y x → On B k y x
  keep_live_on l t = let o = live_out b h l in keep_on b o.0 o.1 t

  pub said_pass : (gs : List Held) → ((m : Bool) → Among gs (hold g (Edge d) m) → ⊥) → ((c ≡ 0) → Among gs (hold g State true) → ⊥)
      → (F : Fact) → Guard gs F → Holds A rho F → Says B rho F
  said_pass gs o k (is_some x) q (n, p) = tt
  said_pass gs o k (is_kid x) q (n, p) = p
  said_pass gs o k (is_key x j) q (n, p) = b.keys x ∙ p
  said_pass gs o k (not_key x j) q (n, p) = rw (b.keys x) p
  said_pass gs o k (turns x j e) q (n, p) = ap (ltb j) (b.keys x) ∙ p
  said_pass gs o k (below x y) q (n, p) = (rw (b.states y) p.0, p.1)
  said_pass gs o k (nears x y) q (n, p) = (rw (b.states y) p.0, p.1, p.2)
  said_pass gs o k (leads x e y) q (n, p) = b.rest x e (λ z. o q.0 (rw (z.0, z.1) at q.1)) ∙ p
  said_pass gs o k (in_state x u) q (n, p) = b.states x ∙ p
  said_pass gs o k (no_child x e) q (n, p) = b.rest x e (λ z. b.some (sym b.was ∙ sym (ap₂ A.link z.0 z.1) ∙ p)) ∙ p
  said_pass gs o k (has_child x e) q (n, p) = go (spot x e g d) (ℕ_discrete c 0)
    where
      go : Dec (Spot x e g d) → Dec (c ≡ 0) → B.link x e ≢ 0
      go (no z) i = rw (b.rest x e z) p
      go (yes z) (yes i) = absurd (k i (rw z.0 at q))
      go (yes z) (no i) = rw (z.0, z.1, b.there) i
  said_pass gs o k (alive_by x e) q (n, p) =
      let r : B.link x e ≡ A.link x e = b.rest x e (λ z. o true (rw (z.0, z.1) at q)) in
      λ m. rw (b.states x) (p (rw r at m))
  said_pass gs o k (alive x) q (n, p) = rw (b.states x) p
  said_pass gs o k (way_to x j) q (n, p) = λ l. let l' : Live A x = rw (b.states x) at l in keep_live_on l' (p l')
  said_pass gs o k (ways_from x j) q (n, p) = λ y t l.
      let l' : Live A y = rw (b.states y) at l in
      ⊎_elim (λ u. keep_live_on l' (p y u l'))
      (λ u.
      let i : Way B j g = keep_live_on b.live (p g u.0 b.live) in
      let e : next B j g ≡ c = ap (B.link g) (ap (ltb j) (b.keys g) ∙ u.2) ∙ b.there in
      on_trans (snoc g c i (rw (b.keys g) u.1) e u.3) (keep_live_on l' u.4))
      (gain_on b t)

module _ {A B : Tab} {p : ℕ} {d : Bool} {f k : ℕ} (b : Append A B p d f k) {rho : ℕ → ℕ} (h : Shape A rho) where
  old_live : {x : ℕ} → A.state x ≢ 0 → Live B x → Live A x
  old_live {x} n l = rw (b.states x (not_new b h n)) at l

  root_some : A.state 0 ≢ 0
  root_some e = let r = h.root_data in omega arith

  -- another link than the new one
  old_link : {x : ℕ} {e : Bool} → A.state x ≢ 0 → (Spot x e p d → ⊥) → B.link x e ≡ A.link x e
  old_link {x} {e} n o = b.rest x e (not_new b h n) o

  pub said_add : (gs : List Held) → ((m : Bool) → Among gs (hold p (Edge d) m) → ⊥) → (Among gs (hold p State true) → ⊥)
      → (F : Fact) → Guard gs F → Holds A rho F → Says B (new_rho b h) F
  said_add gs o i (is_some x) q (n, r) = tt
  said_add gs o i (is_kid x) q (n, r) = r
  said_add gs o i (is_key x j) q (n, r) = b.keys x (not_new b h n) ∙ r
  said_add gs o i (not_key x j) q (n, r) = rw (b.keys x (not_new b h n)) r
  said_add gs o i (turns x j e) q (n, r) = ap (ltb j) (b.keys x (not_new b h n)) ∙ r
  said_add gs o i (below x y) q (n, r) = (
    rw (b.states y (not_new b h r.0)) r.0,
    rw (raise_rest rho f (suc h.cap) x (not_new b h n), raise_rest rho f (suc h.cap) y (not_new b h r.0)) r.1,
  )
  said_add gs o i (nears x y) q (n, r) = (
    rw (b.states y (not_new b h r.0)) r.0,
    (λ m. rw (raise_rest rho f (suc h.cap) x (not_new b h n), raise_rest rho f (suc h.cap) y (not_new b h r.0)) (r.1 m)),
    r.2,
  )
  said_add gs o i (leads x e y) q (n, r) = old_link n (λ z. o q.0 (rw (z.0, z.1) at q.1)) ∙ r
  said_add gs o i (in_state x u) q (n, r) = b.states x (not_new b h n) ∙ r
  said_add gs o i (no_child x e) q (n, r) = old_link n (λ z. i (rw z.0 at q)) ∙ r
  said_add gs o i (has_child x e) q (n, r) = rw (old_link {x = x} {e = e} n (λ z. r (ap₂ A.link z.0 z.1 ∙ b.empty))) r
  said_add gs o i (alive_by x e) q (n, r) =
      let u : B.link x e ≡ A.link x e = old_link n (λ z. o true (rw (z.0, z.1) at q)) in
      λ m. rw (b.states x (not_new b h n)) (r (rw u at m))
  said_add gs o i (alive x) q (n, r) = rw (b.states x (not_new b h n)) r
  said_add gs o i (way_to x j) q (n, r) = λ l. kept_on b h root_some (r (old_live n l))
  said_add gs o i (ways_from x j) q (n, r) = λ y t l. ⊎_elim
      (λ u. kept_on b h root_some (r y u (old_live (on_rank h u n).0 l)))
      (λ u.
      let a : Way B j p = kept_on b h root_some (r p u.1 b.live) in
      let e : next B j p ≡ f = ap (B.link p) (ap (ltb j) (b.keys p (p_old b h)) ∙ u.3) ∙ b.there in
      rw u.0 (snoc p f a (rw (b.keys p (p_old b h)) u.2) e (new_some b h)))
      (new_on b h n t)

-- the interference table: a store of one worker takes no guarded fact from another
pub keep_fact : {A B : Tab} {hs : List Held} {rho : ℕ → ℕ} (t : Store A B hs) (h : Shape A rho) (gs : List Held) → Excl hs gs
    → (F : Fact) → Guard gs F → Holds A rho F → Holds B (rho_after t h) F
keep_fact {A} {B} {hs} {rho} t h gs x F g p = (some_store t h (slot_of F) p.0, go t)
  where
    go : (t : Store A B hs) → Says B (rho_after t h) F
    go (state s v b i j) =
        said_state b h gs (λ m q. x.ours s State m i q)
        (λ e d n q. ⊎_elim (λ z. n z) (λ z. x.theirs s (Edge d) z.0 z.1 q) (j e d)) F g p
    go (pass a d v c w b i j) =
        said_pass b h gs (λ m q. x.ours a (Edge d) m i q) (λ z q. ⊎_elim (λ n. n z) (λ n. x.theirs a State n.0 n.1 q) j) F g p
    go (add a d f k b i j) = said_add b h gs (λ m q. x.ours a (Edge d) m i q) (λ q. x.theirs a State j.0 j.1 q) F g p

-- a lookup or a remove: the key is still ahead, or it has just left the set
pub keep_seen : {A B : Tab} {hs : List Held} {rho : ℕ → ℕ} (t : Store A B hs) (h : Shape A rho) {k x : ℕ} → A.state x ≢ 0
    → Seen A k x → Seen B k x ⊎ (Has B k → ⊥)
keep_seen {A} {B} (state s v b i j) h {k} {x} n (y, o, e, a) = go (ℕ_discrete y s) (ℕ_discrete v 1)
  where
    go : Dec (y ≡ s) → Dec (v ≡ 1) → Seen B k x ⊎ (Has B k → ⊥)
    go (no z) f = inl (y, still_on b.still o, b.still.keys y ∙ e, b.states y z ∙ a)
    go (yes z) (yes f) = inl (y, still_on b.still o, b.still.keys y ∙ e, ap B.state z ∙ b.there ∙ f)
    go (yes z) (no f) = inr (λ m. stated_out b h f (rw (sym e ∙ ap A.key z) at m))
keep_seen (pass g d v c w b i j) h n (y, o, e, a) = inl (y, keep_live_on b h (omega arith) o, b.keys y ∙ e, b.states y ∙ a)
keep_seen (add p d f k b i j) h n (y, o, e, a) =
    let m = not_new b h (on_rank h o n).0 in
    inl (y, kept_on b h n o, b.keys y m ∙ e, b.states y m ∙ a)
