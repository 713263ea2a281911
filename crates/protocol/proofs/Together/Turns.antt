-- WHAT A STORE DOES TO THE SET (it gains the key, loses it, or stays), and who owns what is deleted and still linked, for each
-- kind of store.
-- Assumes nothing.
use mathlib.Core.Path.{◌≡◌, sym, ap, ◌∙◌}
use mathlib.Core.Bool.{Bool, true, false, not}
use mathlib.Core.Logic.{◌⊎◌, inl, inr, ⊎_elim, ◌≢◌}
use Prim.Native.Nat.{ℕ, ◌<◌}
use native.Mathlib.Omega.{arith}
use native.Mathlib.Decide.{ℕ_discrete}
use Rattle.tree.specs.Reach.{Tab, Reached, Has}
use Rattle.protocol.proofs.Paths.Shape.{Shape, reached_some}
use Rattle.protocol.proofs.Paths.Stores.{Stated, Bypass, Append, back, still_reached, lost, not_new, new_reached}
use Rattle.protocol.proofs.Paths.Kept.{stated_set, set_stated, stated_in, was_in, only_in, stated_out, bypass_set, set_bypass, append_new, append_in, append_set, set_append}
use Rattle.protocol.proofs.Together.Stages.{Stage, OwnsIn}

pub both : (P : Bool → Type 0) (c : Bool) → P c → P (not c) → (d : Bool) → P d
both P true p q true = p
both P true p q false = q
both P false p q true = q
both P false p q false = p

module _ {A : Tab} {rho : ℕ → ℕ} (h : Shape A rho) where
  -- a link leads to another slot
  pub apart : {p t : ℕ} (d : Bool) → A.state p ≢ 0 → A.link p d ≡ t → t ≢ 0 → (p ≢ t) × (rho p < rho t)
  apart {p} {t} d n e m = let r = (h.rank p t d n e m).1 in (λ z. (let f = ap rho z in omega arith), r)

  pub key_root : {k t : ℕ} → k < A.key 0 → A.key t ≡ k → t ≢ 0
  key_root l e z = let f = ap A.key z in omega arith

  pub dead_root : {t : ℕ} → A.state t ≡ 3 → t ≢ 0
  dead_root e z = let f = ap A.state z in omega (arith, h.root_data)

-- what a store does to the set
pub data Effect : Type 0 where
  plus minus none : Effect

abbrev pub Others : Tab → Tab → ℕ → Type 0
Others A B k = (i : ℕ) → i ≢ k → (Has A i → Has B i) × (Has B i → Has A i)

abbrev pub Turn : Tab → Tab → ℕ → Effect → Type 0
Turn A B k plus = (Has A k → ⊥) × Has B k × Others A B k
Turn A B k minus = Has A k × (Has B k → ⊥) × Others A B k
Turn A B k none = (i : ℕ) → (Has A i → Has B i) × (Has B i → Has A i)

-- who owns what is deleted and still linked
abbrev pub Owned : Tab → Tab → Stage → Stage → Type 0
Owned A B p q = (x : ℕ) → B.state x ≡ 3 → Reached B x → OwnsIn q x ⊎ ((A.state x ≡ 3) × Reached A x × (OwnsIn p x → OwnsIn q x))

module _ {A B : Tab} {s v : ℕ} (b : Stated A B s v) {rho : ℕ → ℕ} (h : Shape A rho) where
  pub owned_state : (p q : Stage) → (v ≡ 3 → OwnsIn q s) → ((x : ℕ) → OwnsIn p x → OwnsIn q x) → Owned A B p q
  owned_state p q f g x e r = go (ℕ_discrete x s)
    where
      go : Dec (x ≡ s) → OwnsIn q x ⊎ ((A.state x ≡ 3) × Reached A x × (OwnsIn p x → OwnsIn q x))
      go (yes i) = inl (rw i (f (sym b.there ∙ ap B.state (sym i) ∙ e)))
      go (no i) = inr (sym (b.states x i) ∙ e, still_reached (back b.still) r, g x)

  others : (k : ℕ) → A.key s ≡ k → Others A B k
  others k e i n = (stated_set b h i (rw e n), set_stated b h i (rw e n))

  pub turn_plus : (k : ℕ) → A.key s ≡ k → A.state s ≡ 2 → v ≡ 1 → Turn A B k plus
  turn_plus k e f g = ((λ i. (let u = only_in b h (rw e i) in omega arith)), rw e at (stated_in b h g), others k e)

  pub turn_minus : (k : ℕ) → A.key s ≡ k → A.state s ≡ 1 → v ≢ 1 → Turn A B k minus
  turn_minus k e f g = (rw e at (was_in b h f), (λ i. stated_out b h g (rw e i)), others k e)

  pub turn_none : (k : ℕ) → A.state s ≡ 2 → v ≢ 1 → Turn A B k none
  turn_none k f g i = go (ℕ_discrete i (A.key s))
    where
      go : Dec (i ≡ A.key s) → (Has A i → Has B i) × (Has B i → Has A i)
      go (yes e) = ((λ u. absurd (let w = only_in b h (rw e at u) in omega arith)), (λ u. absurd (stated_out b h g (rw e at u))))
      go (no e) = (stated_set b h i e, set_stated b h i e)

module _ {A B : Tab} {g : ℕ} {d : Bool} {v c w : ℕ} (b : Bypass A B g d v c w) {rho : ℕ → ℕ} (h : Shape A rho) where
  pub owned_pass : (p q : Stage) → ((x : ℕ) → OwnsIn p x → (x ≡ v) ⊎ (x ≡ w)) → Owned A B p q
  owned_pass p q f x e r =
      let l = lost b h r in
      inr (sym (b.states x) ∙ e, l.0, λ o. absurd (⊎_elim (λ i. l.1 i) (λ i. l.2 i) (f x o)))

  pub turn_pass : (k : ℕ) → Turn A B k none
  turn_pass k i = (bypass_set b h i, set_bypass b h i)

module _ {A B : Tab} {p : ℕ} {d : Bool} {f k : ℕ} (b : Append A B p d f k) {rho : ℕ → ℕ} (h : Shape A rho) where
  pub owned_add : (q r : Stage) → ((x : ℕ) → OwnsIn q x → ⊥) → Owned A B q r
  owned_add q r n x e i = ⊎_elim
      (λ u. inr (sym (b.states x (not_new b h (reached_some h u))) ∙ e, u, λ o. absurd (n x o)))
      (λ u. absurd (let a = ap B.state (sym u) ∙ e in omega (arith, b.state_there)))
      (new_reached b h i)

  pub turn_add : Turn A B k plus
  turn_add = (append_new b h, append_in b h, λ i n. (append_set b h i, set_append b h i n))
