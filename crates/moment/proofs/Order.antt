-- KEYS ORDER AS THE MOMENTS DO. For all legal keys a and b: if a's instant is earlier then a < b (`earlier_below`); if
-- a < b then a's instant is not later (`below_not_later`); equal instants are ordered by camera, then by file number
-- (`same_instant`). And an instant has one date, time and hundredth (`instant_injective`).
-- Assumes nothing.
use mathlib.Core.Path.{◌≡◌, refl, sym, ap, ◌∙◌}
use mathlib.Core.Bool.{true}
use mathlib.Core.Logic.{◌⊎◌, inl, inr, ⊎_elim, ◌↔◌}
use Prim.Native.Nat.{ℕ, ◌+◌, ◌*◌, ◌/◌, ◌%◌, ◌≤◌, ◌<◌}
use native.Mathlib.Omega.{arith}
use native.Mathlib.Nat.{mul-le-mul_right}
use native.Mathlib.Decide.{dec_lt}
use lib.Arith.{digits_div, digits_mod}
use Rattle.moment.specs.Key.{key_of_fields, fields_of, legal_of, moment_of}
use Rattle.moment.specs.Instant.{day_number, instant_of_fields, instant_of}
use Rattle.moment.specs.declared.Fields.{Fields}
use Rattle.moment.proofs.Ranges.{Ranges, ranges, month_of}
use Rattle.moment.proofs.Packing.{legal_is, pack_unpack}
use Rattle.moment.proofs.Days.{date_bits, day_order}

-- g goes with j: where g rises, j rises, and where g is the same, j is
pub record Goes (g g' j j' : ℕ) : Type 0 where
  pub up : g < g' → j < j'
  pub same : g ≡ g' → j ≡ j'

-- one more digit: w places for it in the key, of which the clock uses r
digit : (r w : ℕ) {g g' j j' x x' : ℕ} → r ≤ w → x < r → x' < r → Goes g g' j j' → Goes (g * w + x) (g' * w + x') (j * r + x) (j' * r + x')
digit r w {g} {g'} {j} {j'} {x} {x'} l p p' h = record { up = up (dec_lt g g') (dec_lt g' g); same = same (dec_lt g g') (dec_lt g' g) }
  where
    -- where the upper digits fall or rise, so does the whole
    over : (a b y z c : ℕ) → a < b → y < c → a * c + y < b * c + z
    over a b y z c k q = omega (arith, mul-le-mul_right c k)

    up : Dec (g < g') → Dec (g' < g) → g * w + x < g' * w + x' → j * r + x < j' * r + x'
    up (yes k) m s = over j j' x x' r (h.up k) p
    up (no k) (yes m) s = absurd (omega (arith, over g' g x' x w m (omega arith)))
    up (no k) (no m) s = let e : g ≡ g' = omega arith in omega (arith, ap (λ (z : ℕ). z * r) (h.same e), ap (λ (z : ℕ). z * w) e)

    same : Dec (g < g') → Dec (g' < g) → g * w + x ≡ g' * w + x' → j * r + x ≡ j' * r + x'
    same (yes k) m s = absurd (omega (arith, over g g' x x' w k (omega arith)))
    same (no k) (yes m) s = absurd (omega (arith, over g' g x' x w m (omega arith)))
    same (no k) (no m) s = let e : g ≡ g' = omega arith in omega (arith, ap (λ (z : ℕ). z * r) (h.same e), ap (λ (z : ℕ). z * w) e)

-- two numbers of one more digit are equal by digits
peel : (w g g' x x' : ℕ) → x < w → x' < w → g * w + x ≡ g' * w + x' → (g ≡ g') × (x ≡ x')
peel w g g' x x' p p' e =
    (sym (digits_div g p) ∙ ap (λ (n : ℕ). n / w) e ∙ digits_div g' p', sym (digits_mod g p) ∙ ap (λ (n : ℕ). n % w) e ∙ digits_mod g' p')

-- the seven fields of the time, side by side, as a key has them
abbrev time_bits : Fields → ℕ
time_bits f =
    (((date_bits f.moment.year f.moment.month f.moment.day * 32 + f.moment.hour) * 64 + f.moment.minute) * 64 + f.moment.second) * 128 + f.hundredth

-- they go with the instant
goes : (f g : Fields) → Ranges f → Ranges g → Goes (time_bits f) (time_bits g) (instant_of_fields f) (instant_of_fields g)
unfolding instant_of_fields
goes f g a b =
    digit 100 128 (omega arith) (omega arith) (omega arith)
    (digit 60 64 (omega arith) (omega arith) (omega arith)
    (digit 60 64 (omega arith) (omega arith) (omega arith)
    (digit 24 32 (omega arith) (omega arith) (omega arith)
    (record { up = day_order a.on b.on; same = dates }))))
  where
    dates : date_bits f.moment.year f.moment.month f.moment.day ≡ date_bits g.moment.year g.moment.month g.moment.day → day_number f.moment.year f.moment.month f.moment.day ≡ day_number g.moment.year g.moment.month g.moment.day
    dates e =
        let ma = month_of a.on in
        let mb = month_of b.on in
        let d = peel 32 _ _ _ _ (omega arith) (omega arith) e in
        let m = peel 16 _ _ _ _ (omega arith) (omega arith) d.0 in
        rw (m.0, m.1, d.1) refl

-- a key is its time, then camera, then file number
split : (f : Fields) → key_of_fields f ≡ (time_bits f * 32 + f.camera) * 16384 + f.number
unfolding key_of_fields
split f = omega arith

-- and so they compare as the instants do
compares : (i j t u : ℕ) → Goes t u i j → Goes u t j i → (i < j → t < u) × (i ≡ j → t ≡ u) × (t ≤ u → i ≤ j)
compares i j t u p q = go (dec_lt t u) (dec_lt u t)
  where
    go : Dec (t < u) → Dec (u < t) → (i < j → t < u) × (i ≡ j → t ≡ u) × (t ≤ u → i ≤ j)
    go (yes l) k = let r = p.up l in omega arith
    go (no l) (yes k) = let r = q.up k in omega arith
    go (no l) (no k) = let r = p.same (omega arith) in omega arith

-- the theorem, on numbers: t and u the times, c and d the cameras, m and n the file numbers
module _ (i j t u c d m n : ℕ) (h : (i < j → t < u) × (i ≡ j → t ≡ u) × (t ≤ u → i ≤ j)) (lc : c ≤ 31) (ld : d ≤ 31) (lm : m ≤ 9999) (ln : n ≤ 9999) where
  below : i < j → (t * 32 + c) * 16384 + m < (u * 32 + d) * 16384 + n
  below l = let k = h.0 l in omega arith

  later : (t * 32 + c) * 16384 + m < (u * 32 + d) * 16384 + n → i ≤ j
  later l = h.2 (omega arith)

  then_camera : i ≡ j → (t * 32 + c) * 16384 + m < (u * 32 + d) * 16384 + n → (c < d) ⊎ ((c ≡ d) × (m < n))
  then_camera e l = let k = h.1 e in go k (dec_lt c d)
    where
      go : t ≡ u → Dec (c < d) → (c < d) ⊎ ((c ≡ d) × (m < n))
      go k (yes p) = inl p
      go k (no p) = inr (omega arith)

  from_camera : i ≡ j → (c < d) ⊎ ((c ≡ d) × (m < n)) → (t * 32 + c) * 16384 + m < (u * 32 + d) * 16384 + n
  from_camera e s = let k = h.1 e in ⊎_elim (λ p. omega arith) (λ p. omega arith) s

-- what is known of two legal keys
module _ (a b : ℕ) (la : legal_of a ≡ true) (lb : legal_of b ≡ true) where
  ra : Ranges (fields_of a)
  ra = ranges (fields_of a) ((legal_is a).0 la).1

  rb : Ranges (fields_of b)
  rb = ranges (fields_of b) ((legal_is b).0 lb).1

  is_a : a ≡ (time_bits (fields_of a) * 32 + (fields_of a).camera) * 16384 + (fields_of a).number
  is_a = sym (pack_unpack a ((legal_is a).0 la).0) ∙ split (fields_of a)

  is_b : b ≡ (time_bits (fields_of b) * 32 + (fields_of b).camera) * 16384 + (fields_of b).number
  is_b = sym (pack_unpack b ((legal_is b).0 lb).0) ∙ split (fields_of b)

  times : (instant_of a < instant_of b → time_bits (fields_of a) < time_bits (fields_of b)) × (instant_of a ≡ instant_of b → time_bits (fields_of a) ≡ time_bits (fields_of b))
      × (time_bits (fields_of a) ≤ time_bits (fields_of b) → instant_of a ≤ instant_of b)
  unfolding instant_of
  times = compares _ _ _ _ (goes (fields_of a) (fields_of b) ra rb) (goes (fields_of b) (fields_of a) rb ra)

  -- AN EARLIER INSTANT, A SMALLER KEY
  pub earlier_below : instant_of a < instant_of b → a < b
  earlier_below h = omega (arith, is_a, is_b, below _ _ _ _ _ _ _ _ times ra.camera rb.camera ra.number rb.number h)

  -- A SMALLER KEY, NO LATER INSTANT
  pub below_not_later : a < b → instant_of a ≤ instant_of b
  below_not_later h = later _ _ _ _ _ _ _ _ times ra.camera rb.camera ra.number rb.number (omega (arith, is_a, is_b))

  -- ONE INSTANT: by camera, then by file number
  pub same_instant : instant_of a ≡ instant_of b → (a < b) ↔ (((fields_of a).camera < (fields_of b).camera) ⊎ (((fields_of a).camera ≡ (fields_of b).camera) × ((fields_of a).number < (fields_of b).number)))
  same_instant e = (
    λ l. then_camera _ _ _ _ _ _ _ _ times ra.camera rb.camera ra.number rb.number e (omega (arith, is_a, is_b)),
    λ s. omega (arith, is_a, is_b, from_camera _ _ _ _ _ _ _ _ times ra.camera rb.camera ra.number rb.number e s),
  )

  -- AN INSTANT HAS ONE DATE, TIME AND HUNDREDTH
  pub instant_injective : instant_of a ≡ instant_of b → (moment_of (fields_of a) ≡ moment_of (fields_of b)) × ((fields_of a).hundredth ≡ (fields_of b).hundredth)
  unfolding moment_of
  instant_injective e =
      let ma = month_of ra.on in
      let mb = month_of rb.on in
      let pa = ra in
      let pb = rb in
      let u = peel 128 _ _ _ _ (omega arith) (omega arith) (times.1 e) in
      let s = peel 64 _ _ _ _ (omega arith) (omega arith) u.0 in
      let i = peel 64 _ _ _ _ (omega arith) (omega arith) s.0 in
      let h = peel 32 _ _ _ _ (omega arith) (omega arith) i.0 in
      let d = peel 32 _ _ _ _ (omega arith) (omega arith) h.0 in
      let m = peel 16 _ _ _ _ (omega arith) (omega arith) d.0 in
      (rw (m.0, m.1, d.1, h.1, i.1, s.1) refl, u.1)
