-- WITH NOBODY BUSY no lock is held and no deleted slot is linked; a sweep then keeps the invariant.
-- Assumes nothing.
use mathlib.Core.Path.{◌≡◌, refl, sym, ap, ◌∙◌}
use mathlib.Core.Bool.{Bool, false}
use mathlib.Core.List.{List, [], ◌∷◌}
use mathlib.Core.Logic.{◌≢◌}
use Prim.Native.Nat.{ℕ, suc, ◌≤◌, ◌<◌}
use native.Mathlib.Omega.{arith}
use native.Mathlib.Decide.{ℕ_discrete}
use lib.Dec.{ltb}
use lib.ListN.{length, get_or}
use Rattle.table.specs.declared.Which.{Which}
use Rattle.tree.specs.Reach.{Tab, top, kid, Reached}
use Rattle.tree.specs.Walk.{dir, next, On, here, down}
use Rattle.tree.proofs.Paths.{via}
use Rattle.protocol.proofs.Paths.Shape.{Live, Shape}
use Rattle.protocol.proofs.Paths.Kept.{move_edge}
use Rattle.protocol.proofs.Together.Sum.{sum}
use Rattle.protocol.proofs.Together.Locks.{units, units_none}
use Rattle.protocol.proofs.Together.Stages.{Doing, idle, held}
use Rattle.protocol.proofs.Together.Inv.{Inv}

-- nobody busy: no lock is held, and no deleted slot is linked
abbrev pub Rest : List Doing → Type 0
Rest ws = (a : ℕ) → a < length ws → get_or ws a idle ≡ idle

pub no_sum : (f : Doing → ℕ) (ws : List Doing) → f idle ≡ 0 → Rest ws → sum f ws ≡ 0
no_sum f [] e r = refl
no_sum f (w ∷ ws) e r = omega (arith, ap f (r 0 (omega arith)), e, no_sum f ws e (λ a l. r (suc a) (omega arith)))

pub no_lock : {n : ℕ} {A : Tab} {L : ℕ → Which → ℕ} {ws : List Doing} {O : ℕ → ℕ → Type 0} {T : ℕ → ℕ} → Inv n A L ws O T → Rest ws → (i : ℕ) (l : Which) → L i l ≡ 0
no_lock {ws = ws} v r i l = v.locked.counted i l ∙ no_sum (λ w. units i l (held w)) ws (units_none i l) r

pub no_deleted : {n : ℕ} {A : Tab} {L : ℕ → Which → ℕ} {ws : List Doing} {O : ℕ → ℕ → Type 0} {T : ℕ → ℕ} → Inv n A L ws O T → Rest ws → (x : ℕ) → Reached A x → A.state x ≢ 3
no_deleted v r x t e = let o = v.owned x e t in rw (r o.0 o.1) at o.2

-- sweep: every deleted slot becomes free
pub record Swept (A B : Tab) : Type 0 where
  pub keys : (x : ℕ) → A.state x ≢ 3 → B.key x ≡ A.key x
  pub states : (x : ℕ) → A.state x ≢ 3 → B.state x ≡ A.state x
  pub links : (x : ℕ) (d : Bool) → A.state x ≢ 3 → B.link x d ≡ A.link x d
  pub gone : (x : ℕ) → A.state x ≡ 3 → B.state x ≡ 0
  pub none : (x : ℕ) (d : Bool) → A.state x ≡ 3 → B.link x d ≡ 0

module _ {A B : Tab} (b : Swept A B) {rho : ℕ → ℕ} (h : Shape A rho) (clean : (x : ℕ) → Reached A x → A.state x ≢ 3) where
  swept_on : {k y x : ℕ} → Reached A x → On A k y x → On B k y x
  swept_on r here = here
  swept_on {k} r (down {x = x} g n t) =
      let c = clean x r in
      via (next A k x) (rw (b.keys x c) g) (ap (B.link x) (ap (ltb k) (b.keys x c)) ∙ b.links x (dir A k x) c) n
      (swept_on (kid (dir A k x) r refl n) t)

  swept_reached : {y : ℕ} → Reached A y → Reached B y
  swept_reached (top e) = top e
  swept_reached (kid {p = p} d r e n) = kid d (swept_reached r) (b.links p d (clean p r) ∙ e) n

  reached_swept : {y : ℕ} → Reached B y → Reached A y
  reached_swept (top e) = top e
  reached_swept (kid {p = p} d r e n) =
      let q = reached_swept r in kid d q (sym (b.links p d (clean p q)) ∙ e) n

  -- what is not free after was live before
  kept : (x : ℕ) → B.state x ≢ 0 → A.state x ≢ 3
  kept x n e = n (b.gone x e)

  kept_live : (x : ℕ) → B.state x ≢ 0 → Live A x
  kept_live x n = let c = kept x n in let n' : A.state x ≢ 0 = rw (b.states x c) at n in omega (arith, h.small x)

  by_kept : (P : ℕ → ℕ → Type 0) (x : ℕ) → (A.state x ≡ 3 → P x 0) → (A.state x ≢ 3 → P x (A.state x)) → P x (B.state x)
  by_kept P x p q = go (ℕ_discrete (A.state x) 3)
    where
      go : Dec (A.state x ≡ 3) → P x (B.state x)
      go (yes e) = rw (b.gone x e) (p e)
      go (no e) = rw (b.states x e) (q e)

  root_kept : A.state 0 ≢ 3
  root_kept e = omega (arith, h.root_data)

  pub shape_swept : Shape B rho
  shape_swept = record {
    cap = h.cap;
    capped = h.capped;
    small = λ x. by_kept (λ y s. s ≤ 3) x (λ e. omega arith) (λ e. h.small x);
    root_data = b.states 0 root_kept ∙ h.root_data;
    root_right = b.links 0 false root_kept ∙ h.root_right;
    highest = λ x n m. rw (b.keys x (kept x n), b.keys 0 root_kept) (h.highest x (rw (b.states x (kept x n)) at n) m);
    edge = λ p y d r e n.
        let q = reached_swept r in
        let f : A.link p d ≡ y = sym (b.links p d (clean p q)) ∙ e in
        move_edge (b.keys y (clean y (kid d q f n))) (b.keys p (clean p q)) (λ w. swept_on (top refl) w) (h.edge p y d q f n);
    alive = λ x l. swept_reached (h.alive x (kept_live x (λ e. omega arith)));
    rank = λ x y d n e m.
        let f : A.link x d ≡ y = sym (b.links x d (kept x n)) ∙ e in
        let r : Reached A y = kid d (h.alive x (kept_live x n)) f m in
        let i = h.rank x y d (rw (b.states x (kept x n)) at n) f m in
        (rw (b.states y (clean y r)) i.0, i.1);
    bare = λ x d. by_kept (λ y s. s ≡ 0 → B.link y d ≡ 0) x (λ e f. b.none x d e) (λ e f. b.links x d e ∙ h.bare x d f);
    two = λ x d. by_kept (λ y s. s ≡ 2 → B.link y d ≢ 0) x (λ e f. absurd (omega arith)) (λ e f. rw (b.links x d e) (h.two x d f));
  }

pub sweep : {n : ℕ} {A B : Tab} {L : ℕ → Which → ℕ} {ws : List Doing} {O : ℕ → ℕ → Type 0} {T : ℕ → ℕ} → Swept A B → Rest ws → Inv n A L ws O T
    → (N : ℕ → ℕ → Type 0) (S : ℕ → ℕ) → Inv n B L ws N S
sweep b r v N S =
    let c = no_deleted v r in
    record {
      rho = v.rho;
      shape = shape_swept b v.shape c;
      fine = λ a l. rw (r a l) tt;
      fit = v.fit;
      quick = λ a l. rw (r a l) tt;
      roles = λ a l. rw (r a l) tt;
      locked = v.locked;
      owned = λ x e t. absurd (c x (reached_swept b v.shape c t) (sym (b.states x (c x (reached_swept b v.shape c t))) ∙ e));
    }
