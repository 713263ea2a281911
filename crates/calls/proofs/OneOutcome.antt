-- One outcome: every promise of this crate, and of `abi` above it, gives each thing that comes out as a definition of what goes in, so any two
-- outcomes that it allows are equal. By what comes out: one thing, two (a number and a value or a buffer), or three.
-- Assumes nothing.
use mathlib.Core.Path.{◌≡◌, sym, ◌∙◌}

pub one : {A : Type 0} {p a a' : A} → a ≡ p → a' ≡ p → a ≡ a'
one e e' = e ∙ sym e'

pub one_of_two : {A B : Type 0} {p a a' : A} {q b b' : B} → (a ≡ p) × (b ≡ q) → (a' ≡ p) × (b' ≡ q) → (a ≡ a') × (b ≡ b')
one_of_two e e' = (one e.0 e'.0, one e.1 e'.1)

pub one_of_three : {A B C : Type 0} {p a a' : A} {q b b' : B} {r c c' : C} → (a ≡ p) × (b ≡ q) × (c ≡ r)
    → (a' ≡ p) × (b' ≡ q) × (c' ≡ r) → (a ≡ a') × (b ≡ b') × (c ≡ c')
one_of_three e e' = (one e.0 e'.0, one e.1 e'.1, one e.2 e'.2)
