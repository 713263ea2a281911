-- Forms and the texts that have them.
-- Assumes nothing.
use mathlib.Core.Path.{◌≡◌, refl, ap}
use mathlib.Core.Bool.{Bool, true, false, cond, ◌&&◌, and-false, and-eq-true_iff, false≢true}
use mathlib.Core.List.{List, [], ◌∷◌}
use Prim.Native.Nat.{ℕ, zero, suc, ◌+◌, ◌-◌, ◌≤◌, ◌<◌}
use native.Mathlib.Numerals.{add-one}
use native.Mathlib.Omega.{arith}
use lib.ListN.{length, get_or, drop, drop_of_length-le}
use lib.Seq.{drop-cons}
use lib.Dec.{eqb}
use borrow.Author.Tests.{eqb-true}
use Rattle.exif.specs.Reading.{is_digit, fits_byte, shaped}
use Rattle.exif.proofs.Digits.{digit_bounds}

-- one place of the comparison
pub step : (form t : List ℕ) (i : ℕ) → i < length form → i < length t
    → shaped (drop i form) (drop i t) ≡ (fits_byte (get_or form i 0) (get_or t i 0) && shaped (drop (i + 1) form) (drop (i + 1) t))
unfolding shaped
step form t i h g = rw (add-one, drop-cons form i 0 h, drop-cons t i 0 g)

pub ended : (form t : List ℕ) (i : ℕ) → length form ≤ i → length t ≤ i → shaped (drop i form) (drop i t) ≡ true
unfolding shaped
ended form t i h g = rw (drop_of_length-le form {i = i} h, drop_of_length-le t {i = i} g)

-- a text of another length does not have the form
pub other_length : (form t : List ℕ) → (length form ≡ length t → ⊥) → shaped form t ≡ false
unfolding shaped
other_length [] [] h = absurd (h refl)
other_length [] (b ∷ t) h = refl
other_length (kind ∷ form) [] h = refl
other_length (kind ∷ form) (b ∷ t) h = rw (other_length form t (λ e. h (ap suc e))) (and-false (fits_byte kind b))

-- one byte that does not fit will do
pub clash : (form t : List ℕ) (i : ℕ) → fits_byte (get_or form i 0) (get_or t i 0) ≡ false → shaped form t ≡ false
unfolding shaped fits_byte
clash [] [] i e = e
clash [] (b ∷ t) i e = refl
clash (kind ∷ form) [] i e = refl
clash (kind ∷ form) (b ∷ t) zero e = rw e
clash (kind ∷ form) (b ∷ t) (suc i) e = rw (clash form t i e) (and-false (fits_byte kind b))

-- P holds of each text that has the form: whatever the digits are
abbrev pub Each : List ℕ → (List ℕ → Type 0) → Type 0
Each [] P = P []
Each (kind ∷ form) P = cond (eqb kind 100) ((n : ℕ) → n < 10 → Each form (λ t. P ((48 + n) ∷ t))) (Each form (λ t. P (kind ∷ t)))

-- the first byte of such a text, and what is known of the rest
first : (kind b : ℕ) (form : List ℕ) (P : List ℕ → Type 0) (t : List ℕ) (k : Bool)
    → cond k ((n : ℕ) → n < 10 → Each form (λ s. P ((48 + n) ∷ s))) (Each form (λ s. P (kind ∷ s)))
    → cond k (is_digit b) (eqb b kind) ≡ true → ((Q : List ℕ → Type 0) → Each form Q → Q t) → P (b ∷ t)
first kind b form P t true g f rest =
    let r = digit_bounds b f in
    let same : 48 + (b - 48) ≡ b = omega arith in
    rw same at (rest (λ s. P ((48 + (b - 48)) ∷ s)) (g (b - 48) (omega arith)))
first kind b form P t false g f rest = rw (eqb-true b kind f) (rest (λ s. P (kind ∷ s)) g)

-- to prove P of a text that has the form, prove it of the form with any digits
pub each : (form : List ℕ) (P : List ℕ → Type 0) → Each form P → (t : List ℕ) → shaped form t ≡ true → P t
unfolding shaped fits_byte
each [] P h [] e = h
each [] P h (b ∷ t) e = absurd (false≢true e)
each (kind ∷ form) P h [] e = absurd (false≢true e)
each (kind ∷ form) P h (b ∷ t) e =
    let r = simp and-eq-true_iff at e in
    first kind b form P t (eqb kind 100) h r.0 (λ Q g. each form Q g t r.1)
