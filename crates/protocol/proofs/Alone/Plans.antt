-- The locks of a plan are on words of their own: so what a lone worker holds on a word is 0 before that lock, the lock's weight
-- after it, and never more than 2. Assumes nothing.
use mathlib.Core.Path.{◌≡◌, refl, sym, ap, ◌∙◌}
use mathlib.Core.Bool.{Bool, true, false, cond, ◌&&◌}
use mathlib.Core.List.{List, [], ◌∷◌}
use mathlib.Core.Logic.{◌≢◌}
use Prim.Native.Nat.{ℕ, zero, suc, ◌+◌, ◌≤◌, ◌<◌}
use native.Mathlib.Omega.{arith}
use native.Mathlib.Decide.{ℕ_discrete, dec_lt}
use native.Mathlib.Nat.{le_of_suc-le-suc}
use lib.Dec.{eqb}
use lib.ListN.{get_or}
use borrow.Author.Tests.{eq-eqb, ne_eqb}
use Rattle.table.specs.Pair.{lock_f}
use Rattle.table.specs.declared.Which.{Which}
use Rattle.table.specs.declared.Which.TheVariants.{State, Edge}
use Rattle.protocol.specs.Plan.{plan, action_at}
use Rattle.protocol.specs.Locks.{weight}
use Rattle.protocol.specs.declared.Phase.{Phase}
use Rattle.protocol.specs.declared.Links.{Links}
use Rattle.protocol.specs.declared.Action.{Action}
use Rattle.protocol.specs.declared.Action.TheVariants.{Visit, Look, Lock, Mark, Link, Take, End, Beyond}
use Rattle.protocol.proofs.LockLaws.{weight_lt}
use Rattle.protocol.proofs.HeldLaws.{weighs, held}
use Rattle.protocol.proofs.StoreLaws.{Each, planned}

-- the word that an action locks: its slot and its field; 0: it locks none
abbrev pub slot_in : Action → ℕ
slot_in (Visit at prev before side up) = 0
slot_in (Look this prev side before up) = 0
slot_in (Lock slot which write state links) = slot
slot_in (Mark slot to) = 0
slot_in (Link slot side to) = 0
slot_in (Take prev side) = 0
slot_in End = 0
slot_in Beyond = 0

abbrev pub field_in : Action → ℕ
field_in (Visit at prev before side up) = 0
field_in (Look this prev side before up) = 0
field_in (Lock slot which write state links) = lock_f which
field_in (Mark slot to) = 0
field_in (Link slot side to) = 0
field_in (Take prev side) = 0
field_in End = 0
field_in Beyond = 0

lock_some : (l : Which) → lock_f l ≢ 0
lock_some State = omega arith
lock_some (Edge true) = omega arith
lock_some (Edge false) = omega arith

-- a lock's field says which it is
one_word : (l m : Which) → lock_f l ≡ lock_f m → l ≡ m
one_word State State e = refl
one_word State (Edge true) e = absurd (omega arith)
one_word State (Edge false) e = absurd (omega arith)
one_word (Edge true) State e = absurd (omega arith)
one_word (Edge true) (Edge true) e = refl
one_word (Edge true) (Edge false) e = absurd (omega arith)
one_word (Edge false) State e = absurd (omega arith)
one_word (Edge false) (Edge true) e = absurd (omega arith)
one_word (Edge false) (Edge false) e = refl

-- two actions do not lock one word
abbrev pub Apart : Action → Action → Type 0
Apart a b = field_in a ≡ field_in b → slot_in a ≡ slot_in b → field_in a ≡ 0

swap : (a b : Action) → Apart a b → Apart b a
swap a b h e f = e ∙ h (sym e) (sym f)

-- no two actions of a plan do
abbrev pub Sole : List Action → Type 0
Sole [] = Unit {0}
Sole (a ∷ rest) = Each (Apart a) rest × Sole rest

ordered : (acts : List Action) → Sole acts → (i j : ℕ) → i < j → Apart (get_or acts i Beyond) (get_or acts j Beyond)
ordered [] s i j h = λ e f. refl
ordered (a ∷ rest) s zero zero h = absurd (omega arith)
ordered (a ∷ rest) s zero (suc j) h = planned (Apart a) (λ e f. e) rest s.0 j
ordered (a ∷ rest) s (suc i) zero h = absurd (omega arith)
ordered (a ∷ rest) s (suc i) (suc j) h = ordered rest s.1 i j (le_of_suc-le-suc h)

pub apart : (acts : List Action) → Sole acts → (i j : ℕ) → i ≢ j → Apart (get_or acts i Beyond) (get_or acts j Beyond)
apart acts s i j n = go (dec_lt i j)
  where
    go : Dec (i < j) → Apart (get_or acts i Beyond) (get_or acts j Beyond)
    go (yes h) = ordered acts s i j h
    go (no h) = swap (get_or acts j Beyond) (get_or acts i Beyond) (ordered acts s j i (omega arith))

-- an action that locks another word weighs nothing on this one
pub spares : (a : Action) (s : ℕ) (l : Which) → (field_in a ≡ lock_f l → slot_in a ≡ s → ⊥) → weighs a s l ≡ 0
spares (Visit at prev before side up) s l h = refl
spares (Look this prev side before up) s l h = refl
spares (Lock slot which write state links) s l h = go (ℕ_discrete slot s) (ℕ_discrete (lock_f which) (lock_f l))
  where
    go : Dec (slot ≡ s) → Dec (lock_f which ≡ lock_f l) → weighs (Lock slot which write state links) s l ≡ 0
    go (yes e) (yes f) = absurd (h f e)
    go (yes e) (no f) = rw (eq-eqb _ _ e, ne_eqb _ _ f)
    go (no e) f = rw (ne_eqb _ _ e)
spares (Mark slot to) s l h = refl
spares (Link slot side to) s l h = refl
spares (Take prev side) s l h = refl
spares End s l h = refl
spares Beyond s l h = refl

weighs_own : (s : ℕ) (l : Which) (write : Bool) (state : ℕ) (links : Links) → weighs (Lock s l write state links) s l ≡ weight write
weighs_own s l write state links = rw (eq-eqb s s refl, eq-eqb (lock_f l) (lock_f l) refl)

-- no action weighs more than 2
weighs_le : (a : Action) (s : ℕ) (l : Which) → weighs a s l ≤ 2
weighs_le (Visit at prev before side up) s l = omega arith
weighs_le (Look this prev side before up) s l = omega arith
weighs_le (Lock slot which write state links) s l = go (eqb slot s && eqb (lock_f which) (lock_f l))
  where
    go : (b : Bool) → cond b (weight write) 0 ≤ 2
    go true = omega (arith, weight_lt write)
    go false = omega arith
weighs_le (Mark slot to) s l = omega arith
weighs_le (Link slot side to) s l = omega arith
weighs_le (Take prev side) s l = omega arith
weighs_le End s l = omega arith
weighs_le Beyond s l = omega arith

-- WHAT IS HELD AFTER n ACTIONS
unfoldable pub held_by : List Action → ℕ → ℕ → Which → ℕ
held_by acts zero s l = 0
held_by acts (suc n) s l = held_by acts n s l + weighs (get_or acts n Beyond) s l

-- one action more
pub held_suc : (acts : List Action) (n s : ℕ) (l : Which) → held_by acts (suc n) s l ≡ held_by acts n s l + weighs (get_or acts n Beyond) s l
unfolding held_by
held_suc acts n s l = refl

pub held_zero : (acts : List Action) (s : ℕ) (l : Which) → held_by acts 0 s l ≡ 0
unfolding held_by
held_zero acts s l = refl

-- it is what the phase of the plan holds
pub held_is : (acts : List Action) (p : Phase) → plan p ≡ acts → (n s : ℕ) (l : Which) → held p n s l ≡ held_by acts n s l
unfolding held held_by action_at
held_is acts p e zero s l = refl
held_is acts p e (suc n) s l = rw (e, held_is acts p e n s l)

module _ (acts : List Action) (sole : Sole acts) where
  -- of two places of the plan, the one weighs nothing on a word that the other locks
  others : (i j s : ℕ) (l : Which) (write : Bool) (state : ℕ) (links : Links) → i ≢ j → get_or acts i Beyond ≡ Lock s l write state links
      → weighs (get_or acts j Beyond) s l ≡ 0
  others i j s l write state links n e =
      spares (get_or acts j Beyond) s l (λ f g.
      lock_some l (sym (ap field_in e) ∙ apart acts sole i j n (ap field_in e ∙ sym f) (ap slot_in e ∙ sym g)))

  -- BEFORE: NOTHING
  pub held_before : (i n s : ℕ) (l : Which) (write : Bool) (state : ℕ) (links : Links) → get_or acts i Beyond ≡ Lock s l write state links → n ≤ i
      → held_by acts n s l ≡ 0
  unfolding held_by
  held_before i zero s l write state links e h = refl
  held_before i (suc n) s l write state links e h =
      omega (arith, held_before i n s l write state links e (omega arith), others i n s l write state links (omega arith) e)

  -- AFTER: THE LOCK'S WEIGHT
  pub held_since : (i n s : ℕ) (l : Which) (write : Bool) (state : ℕ) (links : Links) → get_or acts i Beyond ≡ Lock s l write state links → i < n
      → held_by acts n s l ≡ weight write
  unfolding held_by
  held_since i zero s l write state links e h = absurd (omega arith)
  held_since i (suc n) s l write state links e h = go (ℕ_discrete i n) (λ k. held_since i n s l write state links e k)
    where
      go : Dec (i ≡ n) → (i < n → held_by acts n s l ≡ weight write) → held_by acts n s l + weighs (get_or acts n Beyond) s l ≡ weight write
      go (yes q) r =
          let a : get_or acts n Beyond ≡ Lock s l write state links = ap (λ (m : ℕ). get_or acts m Beyond) (sym q) ∙ e in
          omega (arith, held_before i n s l write state links e (omega arith), ap (λ (b : Action). weighs b s l) a, weighs_own s l write state links)
      go (no q) r = omega (arith, r (omega arith), others i n s l write state links q e)

  -- EVER: AT MOST 2
  pub held_light : (n s : ℕ) (l : Which) → held_by acts n s l ≤ 2
  unfolding held_by
  held_light zero s l = omega arith
  held_light (suc n) s l = go (ℕ_discrete (field_in (get_or acts n Beyond)) (lock_f l)) (ℕ_discrete (slot_in (get_or acts n Beyond)) s) (held_light n s l)
    where
      none : (a : Action) → get_or acts n Beyond ≡ a → field_in a ≡ lock_f l → slot_in a ≡ s → held_by acts n s l ≡ 0
      none (Visit at prev before side up) e f g = absurd (lock_some l (sym f))
      none (Look this prev side before up) e f g = absurd (lock_some l (sym f))
      none (Lock slot which write state links) e f g =
          let i = one_word which l f in
          rw (← g, ← i) (held_before n n slot which write state links e (omega arith))
      none (Mark slot to) e f g = absurd (lock_some l (sym f))
      none (Link slot side to) e f g = absurd (lock_some l (sym f))
      none (Take prev side) e f g = absurd (lock_some l (sym f))
      none End e f g = absurd (lock_some l (sym f))
      none Beyond e f g = absurd (lock_some l (sym f))

      go : Dec (field_in (get_or acts n Beyond) ≡ lock_f l) → Dec (slot_in (get_or acts n Beyond) ≡ s) → held_by acts n s l ≤ 2
          → held_by acts n s l + weighs (get_or acts n Beyond) s l ≤ 2
      go (yes f) (yes g) h = omega (arith, none (get_or acts n Beyond) refl f g, weighs_le (get_or acts n Beyond) s l)
      go (yes f) (no g) h = omega (arith, spares (get_or acts n Beyond) s l (λ x y. g y))
      go (no f) g h = omega (arith, spares (get_or acts n Beyond) s l (λ x y. f x))
