-- What a remover's stores do to the table: a slot with two children turns to routing; a slot with one child, or none, is marked
-- deleted and passed by; with a routing parent both go. Assumes nothing.
use mathlib.Core.Path.{◌≡◌, refl, sym, ap, ◌∙◌}
use mathlib.Core.Bool.{Bool, true, false, not}
use mathlib.Core.Logic.{◌⊎◌, inl, inr, ⊎_elim, ◌≢◌}
use Prim.Native.Nat.{ℕ}
use native.Mathlib.Omega.{arith}
use Rattle.table.specs.Pair.{as_data, routing, deleted}
use Rattle.tree.specs.Reach.{Tab, Has}
use Rattle.protocol.proofs.Words.{SetState, SetLink}
use Rattle.protocol.proofs.Paths.Shape.{Live}
use Rattle.protocol.proofs.Paths.Stores.{Stated, Bypass}
use Rattle.protocol.proofs.Alone.Veil.{Grown}
use Rattle.protocol.proofs.Alone.Growing.{grown_stated, stated_back, stated_others, stated_none, stated_mute, grown_bypass, bypass_back, bypass_same}
use Rattle.protocol.proofs.Alone.Finishing.{Turned, both_ways}
use Rattle.protocol.proofs.Alone.Inserting.{Linked, turned_state}

-- the walk has ended on the data slot y with the wanted key
pub record OnData (D : ℕ → Bool) (k y : ℕ) (B : Tab) : Type 0 where
  pub grown : Grown D B
  pub linked : Linked B
  pub key_is : B.key y ≡ k
  pub state_is : B.state y ≡ as_data
  pub not_root : y ≢ 0

module _ {D : ℕ → Bool} {k y : ℕ} {A : Tab} (f : OnData D k y A) where
  -- TWO CHILDREN
  pub two_turned : {B : Tab} → SetState A B y routing → ((d : Bool) → A.link y d ≢ 0) → Turned D k A B × (Has B k → ⊥)
  two_turned {B} s n =
      let q = f.state_is in
      let b : Stated A B y routing =
      record { still = s.still; there = s.there; states = s.states; live = omega arith; not_root = f.not_root; range = omega arith; two = λ d e. n d } in
      (rw f.key_is at (turned_state f.grown f.linked b (omega arith)), rw f.key_is at (stated_none f.grown b (omega arith)))

  -- the slot is marked
  pub marked : {B : Tab} → SetState A B y deleted → Stated A B y deleted
  marked {B} s =
      let q = f.state_is in
      record { still = s.still; there = s.there; states = s.states; live = omega arith; not_root = f.not_root; range = omega arith; two = λ d e. absurd (omega arith) }

  -- ONE CHILD, OR NONE (c is 0): the link of p passes y by
  pub one_turned : {B C : Tab} {p : ℕ} {d : Bool} {c : ℕ} → SetState A B y deleted → SetLink B C p d c → A.link p d ≡ y → Live A p → p ≢ y → c ≢ y
      → ((t : Bool) → (A.link y t ≡ 0) ⊎ (A.link y t ≡ c)) → (c ≢ 0 → (t : Bool) × (A.link y t ≡ c)) → (c ≢ 0) ⊎ (A.state p ≡ 1)
      → Turned D k A C × (Has C k → ⊥)
  one_turned {B} {C} {p} {d} {c} s l was live apart differ one from two = (
    record {
      grown = grown_bypass g b;
      linked = λ z r. let h = bypass_back g b r in rw (b.states z, s.states z h.1) (f.linked z (stated_back f.grown m h.0));
      others = λ j n. both_ways (bypass_same g b j) (stated_others f.grown m j (rw f.key_is n));
    },
    λ h. stated_none f.grown m (omega arith) (rw f.key_is ((bypass_same g b k).0 h)),
  )
    where
      m : Stated A B y deleted
      m = marked s

      g : Grown D B
      g = grown_stated f.grown m

      b : Bypass B C p d y c y
      b =
          record {
            keys = l.keys;
            states = l.states;
            there = l.there;
            rest = l.rest;
            was = s.still.links p d ∙ was;
            some = f.not_root;
            one = λ t. ⊎_elim (λ e. inl (s.still.links y t ∙ e)) (λ e. inr (inl (s.still.links y t ∙ e))) (one t);
            from = λ n. let u = from n in (u.0, s.still.links y u.0 ∙ u.1);
            under = inl refl;
            other = f.not_root;
            differ = differ;
            live = rw (s.states p apart) live;
            dead = s.there;
            dead_too = s.there;
            two = ⊎_elim inl (λ e. inr (s.states p apart ∙ e)) two;
          }

  -- A LEAF UNDER A ROUTING SLOT p: both go, and the link of q leads to p's other child c
  pub both_turned : {B C E : Tab} {p q : ℕ} {d u : Bool} {c : ℕ} → SetState A B y deleted → SetState B C p deleted → SetLink C E q u c
      → A.link q u ≡ p → A.link p d ≡ y → A.link p (not d) ≡ c → ((t : Bool) → A.link y t ≡ 0) → Live A q → A.state p ≡ routing
      → p ≢ 0 → p ≢ y → q ≢ y → q ≢ p → c ≢ y → c ≢ 0 → Turned D k A E × (Has E k → ⊥)
  both_turned {B} {C} {E} {p} {q} {d} {u} {c} s r l up down across bare live routes pz py qy qp cy cz = (
    record {
      grown = grown_bypass g₂ b;
      linked = λ z i.
          let h = bypass_back g₂ b i in
          rw (b.states z, r.states z h.1, s.states z h.2) (f.linked z (stated_back f.grown m₁ (stated_back g₁ m₂ h.0)));
      others = λ j n. both_ways (bypass_same g₂ b j) (both_ways (stated_mute g₁ m₂ (omega arith) p_not j) (stated_others f.grown m₁ j (rw f.key_is n)));
    },
    λ h. stated_none f.grown m₁ (omega arith) (rw f.key_is ((stated_mute g₁ m₂ (omega arith) p_not k).0 ((bypass_same g₂ b k).0 h))),
  )
    where
      m₁ : Stated A B y deleted
      m₁ = marked s

      g₁ : Grown D B
      g₁ = grown_stated f.grown m₁

      p_state : B.state p ≡ routing
      p_state = s.states p py ∙ routes

      p_not : B.state p ≢ 1
      p_not = let z = p_state in omega arith

      m₂ : Stated B C p deleted
      m₂ =
          let z = p_state in
          record { still = r.still; there = r.there; states = r.states; live = omega arith; not_root = pz; range = omega arith; two = λ t e. absurd (omega arith) }

      g₂ : Grown D C
      g₂ = grown_stated g₁ m₂

      link_as : (x : ℕ) (t : Bool) → C.link x t ≡ A.link x t
      link_as x t = r.still.links x t ∙ s.still.links x t

      y_dead : C.state y ≡ deleted
      y_dead = r.states y (λ e. py (sym e)) ∙ s.there

      sides : (t : Bool) → (t ≡ d) ⊎ (t ≡ not d)
      sides t = go t d
        where
          go : (t d : Bool) → (t ≡ d) ⊎ (t ≡ not d)
          go true true = inl refl
          go true false = inr refl
          go false true = inr refl
          go false false = inl refl

      b : Bypass C E q u p c y
      b =
          record {
            keys = l.keys;
            states = l.states;
            there = l.there;
            rest = l.rest;
            was = link_as q u ∙ up;
            some = pz;
            one = λ t. ⊎_elim
                (λ e. inr (inr (link_as p t ∙ ap (A.link p) e ∙ down, λ i. link_as y i ∙ bare i)))
                (λ e. inr (inl (link_as p t ∙ ap (A.link p) e ∙ across))) (sides t);
            from = λ n. (not d, link_as p (not d) ∙ across);
            under = inr (d, link_as p d ∙ down);
            other = f.not_root;
            differ = cy;
            live = rw (r.states q qp, s.states q qy) live;
            dead = r.there;
            dead_too = y_dead;
            two = inl cz;
          }
