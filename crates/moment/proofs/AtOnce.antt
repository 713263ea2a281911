-- Legality by one sum, of a key of the years 1990 to 2999: with slack for the last days of a month it tells that the key is
-- legal; with none for the day it tells all but whether the month has the day.
-- Assumes nothing.
use mathlib.Core.Path.{◌≡◌, sym, ap, ◌∙◌}
use mathlib.Core.Bool.{Bool, true, false, ◌&&◌, false≢true}
use mathlib.Core.Logic.{◌↔◌}
use mathlib.Core.List.{List, [], ◌∷◌}
use Prim.Native.Nat.{ℕ, ◌+◌, ◌-◌, ◌^◌, ◌≤◌, ◌<◌}
use native.Mathlib.Omega.{arith}
use lib.Dec.{leb, ltb}
use lib.ListN.{get_or, drop}
use lib.Bits.{bit_and}
use Rattle.layout.specs.Layout.{fld, enc, dec}
use Rattle.layout.proofs.LayoutLaws.{dec_enc}
use Rattle.layout.proofs.CarryLaws.{Roomy, marks, at_once}
use Rattle.moment.specs.Calendar.{days_in}
use Rattle.moment.specs.Key.{key_layout, listed, key_of_fields, fields_of, legal_of, first_key, years_of_keys}
use Rattle.moment.specs.declared.Fields.{Fields}
use Rattle.moment.proofs.Tests.{tests}
use Rattle.moment.proofs.Ranges.{Ranges, days_least, month_of, ranges, ranged}
use Rattle.moment.proofs.Packing.{legal_is, pack_unpack}
use Rattle.moment.proofs.Quick.{same_test, day_fits}

-- the fields below the year, and the most of each, counted from its least; d: of the day
abbrev pub below : List ℕ
below = drop 1 key_layout

abbrev mosts : ℕ → List ℕ
mosts d = 11 ∷ d ∷ 23 ∷ 59 ∷ 59 ∷ 99 ∷ 31 ∷ 9999 ∷ []

-- what a field at its most lacks to its size
abbrev lacks : List ℕ → List ℕ → List ℕ
lacks [] ms = []
lacks (w ∷ ws) [] = []
lacks (w ∷ ws) (m ∷ ms) = (2 ^ w - 1 - m) ∷ lacks ws ms

-- of a day to the 28th, and of any of 31
abbrev pub early : List ℕ
early = lacks below (mosts 27)

abbrev pub late : List ℕ
late = lacks below (mosts 31)

-- the test: one sum, one mask
abbrev pub Sums : List ℕ → ℕ → Type 0
Sums ss k = bit_and (k + enc below ss) (marks below) ≡ bit_and k (marks below)

sums_late : (k : ℕ) → Sums late k ↔ Roomy below late k
sums_late k = at_once below late k (omega arith)

sums_early : (k : ℕ) → Sums early k → Roomy below early k
sums_early k e = (at_once below early k (omega arith)).0 e

-- the month has the day of the key
abbrev pub has_day : ℕ → Bool
has_day key = day_fits (fld key_layout 0 key) (fld key_layout 1 key) (fld key_layout 2 key)

-- what is left of a key less the first moment has room, and the key has a day: each field is within its bounds
bounds : (k : ℕ) → k < years_of_keys → Roomy below late k → has_day (k + first_key) ≡ true → Ranges (fields_of (k + first_key))
unfolding fields_of
bounds k h r e =
    let f = simp tests at e in
    let d = f.0 in
    record {
      on = record { from = omega arith; to = omega arith; first = f.0; last = f.1 };
      hour = omega arith;
      minute = omega arith;
      second = omega arith;
      hundredth = omega arith;
      camera = omega arith;
      number = omega arith;
    }

-- and back: legal fields, counted from their leasts, are the fields of what is left
counted : Fields → List ℕ
counted f = (f.moment.year - 1990) ∷ (f.moment.month - 1) ∷ (f.moment.day - 1) ∷ drop 3 (listed f)

left : (k : ℕ) → Ranges (fields_of (k + first_key)) → k + first_key < 2 ^ 64 → dec key_layout k ≡ counted (fields_of (k + first_key))
unfolding counted key_of_fields
left k r b =
    let f = fields_of (k + first_key) in
    let o = r.on in
    let m = month_of o in
    let e : k ≡ enc key_layout (counted f) = omega (arith, pack_unpack (k + first_key) b) in
    ap (dec key_layout) e ∙ dec_enc key_layout (counted f) (omega arith)

room : (k : ℕ) → k < years_of_keys → Ranges (fields_of (k + first_key)) → Roomy below late k × (has_day (k + first_key) ≡ true)
unfolding fields_of counted
room k h r =
    let m = month_of r.on in
    let o = r.on in
    let e = left k r (omega arith) in
    let at : (i : ℕ) → get_or (dec key_layout k) i 0 ≡ get_or (counted (fields_of (k + first_key))) i 0 = λ i. ap (λ (l : List ℕ). get_or l i 0) e in
    let n : fld key_layout 8 k ≤ 9999 = omega (arith, r.number) in
    (omega (arith, at 1, at 2, at 3, at 4, at 5, at 6, at 7), simp tests (r.on.first, r.on.last))

-- legal exactly where the sum tells so, and the month has the day
module _ (k : ℕ) (h : k < years_of_keys) where
  pub late_legal : Sums late k → has_day (k + first_key) ≡ legal_of (k + first_key)
  late_legal e =
      same_test _ _ (λ d. (legal_is (k + first_key)).1 (omega arith, ranged _ (bounds k h ((sums_late k).0 e) d)))
      (λ l. (room k h (ranges _ ((legal_is (k + first_key)).0 l).1)).1)

  pub late_not : (Sums late k → ⊥) → false ≡ legal_of (k + first_key)
  late_not n = same_test _ _ (λ z. absurd (false≢true z)) (λ l. absurd (n ((sums_late k).1 (room k h (ranges _ ((legal_is (k + first_key)).0 l).1)).0)))

  -- a day to the 28th is in every month
  first_days : Roomy below early k → has_day (k + first_key) ≡ true
  first_days r =
      let y = fld key_layout 0 (k + first_key) in
      let m = fld key_layout 1 (k + first_key) in
      let a : (1 ≤ m) × (m ≤ 12) = omega arith in
      let d : 28 ≤ days_in y m = days_least y m a.0 a.1 in
      simp tests (omega arith, omega arith)

  pub early_legal : Sums early k → true ≡ legal_of (k + first_key)
  early_legal e = let r = sums_early k e in sym (first_days r) ∙ late_legal ((sums_late k).1 (omega arith))

-- outside the years no key is legal
pub outside : (key : ℕ) → (leb first_key key && ltb key (first_key + years_of_keys)) ≡ false → false ≡ legal_of key
unfolding fields_of
outside key e =
    same_test _ _ (λ z. absurd (false≢true z))
    (λ l. let r = ranges (fields_of key) ((legal_is key).0 l).1 in
    let m = month_of r.on in
    let o = r.on in
    let b = ((legal_is key).0 l).0 in
    absurd (false≢true (sym e ∙ simp tests (omega arith, omega arith))))
