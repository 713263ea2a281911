-- THE SHAPE OF A GOOD TABLE, in the path form: what is linked is found by its own key, ranks rise along links (so no walk goes
-- round), every data and routing slot is reached, routing slots have two children. And the laws of walks, of such a table.
-- Assumes nothing.
use mathlib.Core.Path.{◌≡◌, refl}
use mathlib.Core.Bool.{Bool, false}
use mathlib.Core.Logic.{◌⊎◌, inl, inr, ⊎_elim, ◌≢◌}
use Prim.Native.Nat.{ℕ, ◌≤◌, ◌<◌}
use native.Mathlib.Omega.{arith}
use Rattle.tree.specs.Reach.{Tab, top, kid, Reached, Has}
use Rattle.tree.specs.Walk.{dir, next, On, here, down, Way, Seen, Ordered}
use Rattle.tree.proofs.Paths as paths

-- data or routing
abbrev pub Live : Tab → ℕ → Type 0
Live A s = (0 < A.state s) × (A.state s < 3)

-- rho is the rank of each slot, at most cap. A rank is needed since walkers stand on slots that are no longer reached
pub record Shape (A : Tab) (rho : ℕ → ℕ) : Type 0 where
  pub cap : ℕ
  pub capped : (s : ℕ) → rho s ≤ cap
  pub small : (s : ℕ) → A.state s ≤ 3
  pub root_data : A.state 0 ≡ 1
  pub root_right : A.link 0 false ≡ 0
  pub highest : (s : ℕ) → A.state s ≢ 0 → s ≢ 0 → A.key s < A.key 0
  pub edge : Ordered A
  pub alive : (s : ℕ) → Live A s → Reached A s
  pub rank : (s y : ℕ) (d : Bool) → A.state s ≢ 0 → A.link s d ≡ y → y ≢ 0 → (A.state y ≢ 0) × (rho s < rho y)
  pub bare : (s : ℕ) (d : Bool) → A.state s ≡ 0 → A.link s d ≡ 0
  pub two : (s : ℕ) (d : Bool) → A.state s ≡ 2 → A.link s d ≢ 0

module _ {A : Tab} {rho : ℕ → ℕ} (h : Shape A rho) where
  -- ranks rise along a walk
  pub on_rank : {k y x : ℕ} → On A k y x → A.state x ≢ 0 → (A.state y ≢ 0) × ((x ≡ y) ⊎ (rho x < rho y))
  on_rank here f = (f, inl refl)
  on_rank {k} {y = y} (down {x = x} a b t) f =
      let r = h.rank x (next A k x) (dir A k x) f refl b in
      let i = on_rank t r.0 in
      (i.0, inr (⊎_elim (λ e. rw e at r.1) (λ l. omega arith) i.1))

  -- what is reached is not free
  pub reached_some : {y : ℕ} → Reached A y → A.state y ≢ 0
  reached_some (top e) = rw (e, h.root_data) (omega arith)
  reached_some (kid {y = y} {p = p} d r e n) = (h.rank p y d (reached_some r) e n).0

  -- the laws of walks
  pub own_way : {y : ℕ} → Reached A y → Way A (A.key y) y
  own_way r = paths.own_way h.edge r

  pub unique_key : {y z : ℕ} → Reached A y → Reached A z → A.key y ≡ A.key z → y ≡ z
  unique_key r s e = paths.unique_key h.edge r s e

  pub unique_parent : {p q y : ℕ} (d e : Bool) → Reached A p → Reached A q → A.link p d ≡ y → A.link q e ≡ y → y ≢ 0 → (p ≡ q) × (d ≡ e)
  unique_parent d e r s f g n = paths.unique_parent h.edge d e r s f g n

  pub absent : {k p y : ℕ} → Way A k p → A.key p ≢ k → next A k p ≡ 0 → Reached A y → A.key y ≡ k → ⊥
  absent w a e r f = paths.absent h.edge w a e r f

  pub set_seen : {k : ℕ} → Has A k → Seen A k 0
  set_seen i = paths.set_seen h.edge i

  pub seen_set : {k : ℕ} → k < A.key 0 → Seen A k 0 → Has A k
  seen_set l s = paths.seen_set (λ e. omega arith) s
