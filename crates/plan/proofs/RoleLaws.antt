-- The roles, as the code judges them: the walk's by whether previous is 0, a remover's by the walk's. Three slots in three
-- roles are the same judgement wherever they stand.
-- Assumes nothing.
use mathlib.Core.Path.{◌≡◌, refl, sym, ap, ◌∙◌}
use mathlib.Core.Bool.{Bool, true, false, not, ◌&&◌, ◌||◌, and-eq-true_iff}
use mathlib.Core.Logic.{◌↔◌, ◌≢◌}
use Prim.Native.Nat.{ℕ, zero, suc, ◌<◌}
use native.Mathlib.Omega.{arith}
use lib.Dec.{ltb, eqb}
use borrow.Author.Tests.{eqb-false, ne_eqb, not-true}
use Rattle.moment.proofs.Tests.{ltb_iff, eqb_iff}
use Rattle.protocol.specs.Record.{slot, roles}
use Rattle.protocol.specs.declared.Kind.TheVariants.{Lookup, Remove}
use Rattle.protocol.specs.declared.Phase.TheVariants.{Walk, One, Leaf, UnderRouting}

ne_iff : (a b : ℕ) → (not (eqb a b) ≡ true) ↔ (a ≢ b)
ne_iff a b = (λ e. eqb-false a b (not-true (eqb a b) e), λ d. ap not (ne_eqb a b d))

or_false : (b : Bool) → (b || false) ≡ b
or_false true = refl
or_false false = refl

ruleset facts = (and-eq-true_iff, ltb_iff, eqb_iff, ne_iff, or_false)

-- two tests that are passed together are one
same : (a b : Bool) → (a ≡ true → b ≡ true) → (b ≡ true → a ≡ true) → a ≡ b
same true true f g = refl
same true false f g = sym (f refl)
same false true f g = g refl
same false false f g = refl

-- The walk

at_top : (b a x y z : Bool) → b ≡ (b || (a && false && x && y && z))
at_top true a x y z = refl
at_top false true x y z = refl
at_top false false x y z = refl

below : (a b c o x y z : Bool) → (a && b && c && o && x && y && z) ≡ ((a && b && c) && ((o && a) && b && x && y && z))
below false b c o x y z = refl
below true false c o x y z = refl
below true true false o x y z = refl
below true true true true x y z = refl
below true true true false x y z = refl

pub walk_top : (n at before : ℕ) → (ltb at n && eqb before 0) ≡ roles n Lookup (Walk at 0 before true true)
unfolding roles
walk_top n at before =
    rw (← (at_top (eqb before 0) (slot n at) (not (eqb at 0)) (not (eqb at before)) (not (eqb 0 before))))
    (same _ _ (λ e. let h = simp facts at e in simp facts (omega arith)) (λ e. let h = simp facts at e in simp facts (omega arith)))

pub walk_below : (n at prev before : ℕ) → prev ≢ 0
    → (ltb at n && ltb prev n && ltb before n && not (eqb at 0) && not (eqb at prev) && not (eqb at before) && not (eqb prev before))
    ≡ roles n Lookup (Walk at prev before true true)
unfolding roles
walk_below n at prev before d =
    rw (ne_eqb prev 0 d)
    (below (ltb at n) (ltb prev n) (ltb before n) (not (eqb at 0)) (not (eqb at prev)) (not (eqb at before)) (not (eqb prev before)))

-- three slots in three roles, the first of them not the root
abbrev Three : ℕ → ℕ → ℕ → ℕ → Type 0
Three n a b c = ((((((a < n) × (b < n)) × (c < n)) × (a ≢ 0)) × (a ≢ b)) × (a ≢ c)) × (b ≢ c)

three_of : (n at prev before : ℕ) {w : Bool} → w ≡ roles n Lookup (Walk at prev before true true) → prev ≢ 0 → w ≡ true → Three n at prev before
three_of n at prev before e d t = simp facts at (walk_below n at prev before d ∙ sym e ∙ t)

of_three : (n at prev before : ℕ) {w : Bool} → w ≡ roles n Lookup (Walk at prev before true true) → prev ≢ 0 → Three n at prev before → w ≡ true
of_three n at prev before e d t = e ∙ sym (walk_below n at prev before d) ∙ simp facts t

-- The remover's, where w is the walk's judgement of three of its slots

pub one_law : (n this prev child done : ℕ) (side toward w : Bool) → w ≡ roles n Lookup (Walk this child prev true true)
    → (not (eqb child 0) && w && ltb done 6) ≡ roles n Remove (One this prev side child toward done)
unfolding roles
one_law n this prev child done side toward w e = same _
    (slot n this && ltb prev n && slot n child && not (eqb this prev) && not (eqb this child) && not (eqb prev child) && ltb done 6)
    (λ f. let h = simp facts at f in
    let t = three_of n this child prev e h.0.0 h.0.1 in
    simp facts (((((((t.0.0.0.1, t.0.0.0.0.0.0), t.0.0.0.0.1), (h.0.0, t.0.0.0.0.0.1)), t.0.1), t.0.0.1), λ z. t.1 (sym z)), h.1))
    (λ f. let h = simp facts at f in
    let t = of_three n this child prev e h.0.0.0.0.1.0 ((((((h.0.0.0.0.0.0.1, h.0.0.0.0.1.1), h.0.0.0.0.0.1), h.0.0.0.0.0.0.0), h.0.0.1), h.0.0.0.1), λ z. h.0.1 (sym z)) in
    simp facts ((h.0.0.0.0.1.0, t), h.1))

leaf_top : (n this before : ℕ) (side up w : Bool) → w ≡ roles n Lookup (Walk this 0 before true true)
    → (not (eqb this 0) && w) ≡ roles n Remove (Leaf this 0 side before up)
unfolding roles
leaf_top n this before side up w e =
    rw (e ∙ sym (walk_top n this before))
    (same _ (slot n this && ltb 0 n && ltb before n && not (eqb this 0) && not (eqb this before) && (eqb before 0 || false))
    (λ f. let h = simp facts at f in simp facts (omega arith)) (λ f. let h = simp facts at f in simp facts (omega arith)))

leaf_below : (n this prev before : ℕ) (side up w : Bool) → w ≡ roles n Lookup (Walk this prev before true true) → prev ≢ 0
    → (not (eqb this 0) && w) ≡ roles n Remove (Leaf this prev side before up)
unfolding roles
leaf_below n this prev before side up w e d =
    rw (ne_eqb prev 0 d)
    (same _ (slot n this && ltb prev n && ltb before n && not (eqb this prev) && not (eqb this before) && not (eqb prev before))
    (λ f. let h = simp facts at f in
    let t = three_of n this prev before e d h.1 in
    simp facts ((((((h.0, t.0.0.0.0.0.0), t.0.0.0.0.0.1), t.0.0.0.0.1), t.0.0.1), t.0.1), t.1))
    (λ f. let h = simp facts at f in
    let t = of_three n this prev before e d ((((((h.0.0.0.0.0.1, h.0.0.0.0.1), h.0.0.0.1), h.0.0.0.0.0.0), h.0.0.1), h.0.1), h.1) in
    simp facts (h.0.0.0.0.0.0, t)))

pub leaf_law : (n this prev before : ℕ) (side up w : Bool) → w ≡ roles n Lookup (Walk this prev before true true)
    → (not (eqb this 0) && w) ≡ roles n Remove (Leaf this prev side before up)
leaf_law n this zero before side up w e = leaf_top n this before side up w e
leaf_law n this (suc prev) before side up w e = leaf_below n this (suc prev) before side up w e (omega arith)

pub under_law : (n this prev before other done : ℕ) (side up v w : Bool) → v ≡ roles n Lookup (Walk this prev before true true)
    → w ≡ roles n Lookup (Walk this other prev true true)
    → (not (eqb prev 0) && not (eqb other 0) && v && w && not (eqb before other) && ltb done 9)
    ≡ roles n Remove (UnderRouting this prev side before up other done)
unfolding roles
under_law n this prev before other done side up v w e e' = same _
    (slot n this && slot n prev && ltb before n && slot n other && not (eqb this prev) && not (eqb this before)
    && not (eqb this other) && not (eqb prev before) && not (eqb prev other) && not (eqb before other) && ltb done 9)
    (λ f. let h = simp facts at f in
    let p = h.0.0.0.0 in
    let t = three_of n this prev before e p.0 h.0.0.0.1 in
    let u = three_of n this other prev e' p.1 h.0.0.1 in
    simp facts (((((((((((t.0.0.0.1, t.0.0.0.0.0.0), (p.0, t.0.0.0.0.0.1)), t.0.0.0.0.1), (p.1, u.0.0.0.0.0.1)), t.0.0.1), t.0.1), u.0.0.1), t.1), λ z. u.1 (sym z)), h.0.1), h.1))
    (λ f. let h = simp facts at f in
    let t = of_three n this prev before e h.0.0.0.0.0.0.0.0.0.1.0 ((((((h.0.0.0.0.0.0.0.0.0.0.1, h.0.0.0.0.0.0.0.0.0.1.1), h.0.0.0.0.0.0.0.0.1), h.0.0.0.0.0.0.0.0.0.0.0), h.0.0.0.0.0.0.1), h.0.0.0.0.0.1), h.0.0.0.1) in
    let u = of_three n this other prev e' h.0.0.0.0.0.0.0.1.0 ((((((h.0.0.0.0.0.0.0.0.0.0.1, h.0.0.0.0.0.0.0.1.1), h.0.0.0.0.0.0.0.0.0.1.1), h.0.0.0.0.0.0.0.0.0.0.0), h.0.0.0.0.1), h.0.0.0.0.0.0.1), λ z. h.0.0.1 (sym z)) in
    simp facts (((((h.0.0.0.0.0.0.0.0.0.1.0, h.0.0.0.0.0.0.0.1.0), t), u), h.0.1), h.1))
