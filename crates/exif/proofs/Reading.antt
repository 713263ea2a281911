-- The reader's definitions, form by form: what a text that has a form says, and that the text of a moment has its form.
-- Assumes nothing.
use mathlib.Core.Path.{◌≡◌, refl}
use mathlib.Core.Bool.{true, false, or-true}
use mathlib.Core.List.{List, ◌++◌}
use mathlib.Core.Logic.{◌⊎◌, inl, inr, ⊎_elim}
use Prim.Native.Nat.{ℕ, ◌/◌, ◌<◌}
use native.Mathlib.Omega.{arith}
use lib.ListN.{get_or}
use borrow.Author.Tests.{ne_eqb}
use Rattle.moment.specs.Calendar.{moment_exists, time_exists}
use Rattle.moment.specs.declared.Moment.{Moment}
use Rattle.moment.proofs.Tests.{tests, by_cases, either}
use Rattle.moment.proofs.Ranges.{date, month_of}
use Rattle.exif.specs.Forms.{blank, nul, blank_text, colon_text, digit, one, two, four, text, two_digit_hour, blank_hour, one_digit_hour, one_digit_hour_two_nuls, HasForm, two_digits, blank_and_digit, one_digit, one_digit_two_nuls, UnknownTime, all_blanks, four_colons}
use Rattle.exif.specs.Reading.{is_digit, two_at, fits_byte, shaped, two_digit_form, blank_hour_form, one_digit_form, two_nuls_form, unknown_of, one_digit_of, form_of, moment_at, moment_in}
use Rattle.exif.specs.declared.HourForm.{HourForm}
use Rattle.exif.specs.declared.HourForm.TheVariants.{TwoDigits, BlankAndDigit, OneDigit}
use Rattle.refusal.specs.Said.{Said, gives, refuses}
use Rattle.exif.proofs.Digits.{small, last_is_digit, two_again, one_again, four_again, two_back, one_back, four_back}
use Rattle.exif.proofs.Shapes.{clash, each}

-- a text that has a form is the text of the moment that it says
said_two : (t : List ℕ) → shaped two_digit_form t ≡ true → t ≡ two_digit_hour (moment_in t TwoDigits)
unfolding two_digit_hour text moment_in moment_at two_at
said_two =
    each two_digit_form (λ t. t ≡ two_digit_hour (moment_in t TwoDigits))
    (λ y1 a1 y2 a2 y3 a3 y4 a4 m1 b1 m2 b2 d1 c1 d2 c2 h1 e1 h2 e2 n1 f1 n2 f2 s1 g1 s2 g2. simp (four_again, two_again))

said_blank : (t : List ℕ) → shaped blank_hour_form t ≡ true → t ≡ blank_hour (moment_in t BlankAndDigit)
unfolding blank_hour text moment_in moment_at two_at
said_blank =
    each blank_hour_form (λ t. t ≡ blank_hour (moment_in t BlankAndDigit))
    (λ y1 a1 y2 a2 y3 a3 y4 a4 m1 b1 m2 b2 d1 c1 d2 c2 h e n1 f1 n2 f2 s1 g1 s2 g2. simp (four_again, two_again, one_again))

said_one : (t : List ℕ) → shaped one_digit_form t ≡ true → t ≡ one_digit_hour (moment_in t OneDigit)
unfolding one_digit_hour text moment_in moment_at two_at
said_one =
    each one_digit_form (λ t. t ≡ one_digit_hour (moment_in t OneDigit))
    (λ y1 a1 y2 a2 y3 a3 y4 a4 m1 b1 m2 b2 d1 c1 d2 c2 h e n1 f1 n2 f2 s1 g1 s2 g2. simp (four_again, two_again, one_again))

said_two_nuls : (t : List ℕ) → shaped two_nuls_form t ≡ true → t ≡ one_digit_hour_two_nuls (moment_in t OneDigit)
unfolding one_digit_hour_two_nuls text moment_in moment_at two_at
said_two_nuls =
    each two_nuls_form (λ t. t ≡ one_digit_hour_two_nuls (moment_in t OneDigit))
    (λ y1 a1 y2 a2 y3 a3 y4 a4 m1 b1 m2 b2 d1 c1 d2 c2 h e n1 f1 n2 f2 s1 g1 s2 g2. simp (four_again, two_again, one_again))

-- what the form of the hour tells of a text, or why there is none
abbrev pub Tells : List ℕ → Said HourForm → Type 0
Tells t (gives hour) = HasForm (moment_in t hour) t
Tells t (refuses n) = ((n ≡ 12) × UnknownTime t) ⊎ (n ≡ 10)

unknown : (t : List ℕ) → unknown_of t ≡ true → UnknownTime t
unfolding unknown_of
unknown t e =
    ⊎_elim (λ f. all_blanks (each blank_text (λ s. s ≡ blank_text) refl t f)) (λ f. four_colons (each colon_text (λ s. s ≡ colon_text) refl t f))
    (either (shaped blank_text t) (shaped colon_text t) e)

one_digit_told : (t : List ℕ) → one_digit_of t ≡ true → HasForm (moment_in t OneDigit) t
unfolding one_digit_of moment_in moment_at
one_digit_told t e =
    ⊎_elim (λ f. one_digit (small (get_or t 11 0)) (said_one t f)) (λ f. one_digit_two_nuls (small (get_or t 11 0)) (said_two_nuls t f))
    (either (shaped one_digit_form t) (shaped two_nuls_form t) e)

blank_told : (t : List ℕ) → shaped blank_hour_form t ≡ true → HasForm (moment_in t BlankAndDigit) t
unfolding moment_in moment_at
blank_told t f = blank_and_digit (small (get_or t 12 0)) (said_blank t f)

pub told : (t : List ℕ) → Tells t (form_of t)
unfolding form_of
told t =
    by_cases (Tells t) (unknown_of t) (λ e. inl (refl, unknown t e))
    (λ _. by_cases (Tells t) (shaped two_digit_form t) (λ f. two_digits (said_two t f))
    (λ _. by_cases (Tells t) (shaped blank_hour_form t) (blank_told t)
    (λ _. by_cases (Tells t) (one_digit_of t) (one_digit_told t) (λ _. inr refl))))

-- a digit is no blank
no_blank : (n : ℕ) → fits_byte 32 (digit n) ≡ false
unfolding fits_byte
no_blank n = ne_eqb (digit n) 32 (λ e. omega arith)

-- the text of a moment, the hour given, is not one of the two of unknown time
known : (m : Moment) (hour end : List ℕ) → unknown_of (text m hour end) ≡ false
unfolding unknown_of text four two
known m hour end =
    let n = no_blank (m.year / 100 / 10) in
    rw (clash blank_text (text m hour end) 0 n, clash colon_text (text m hour end) 0 n)

-- an hour of one digit, with one NUL or two
ends_once : (m : Moment) → one_digit_of (text m (one m.hour) nul) ≡ true
unfolding one_digit_of shaped fits_byte text four two one
ends_once m = simp last_is_digit

ends_twice : (m : Moment) → one_digit_of (text m (one m.hour) (nul ++ nul)) ≡ true
unfolding one_digit_of shaped fits_byte text four two one
ends_twice m = simp (last_is_digit, or-true)

-- the text of a moment has its form, and no other
module _ (m : Moment) where
  form_two : form_of (two_digit_hour m) ≡ gives TwoDigits
  unfolding form_of two_digit_hour shaped fits_byte text four two
  form_two = let fits : shaped two_digit_form (two_digit_hour m) ≡ true = simp last_is_digit in rw (known m (two m.hour) nul, fits)

  form_blank : form_of (blank_hour m) ≡ gives BlankAndDigit
  unfolding form_of blank_hour shaped fits_byte is_digit text four two one
  form_blank =
      let fits : shaped blank_hour_form (blank_hour m) ≡ true = simp last_is_digit in
      rw (known m (blank ++ one m.hour) nul, clash two_digit_form (blank_hour m) 11 refl, fits)

  -- an hour of one digit, whatever ends the text
  form_one_digit : (end : List ℕ) → one_digit_of (text m (one m.hour) end) ≡ true → form_of (text m (one m.hour) end) ≡ gives OneDigit
  unfolding form_of fits_byte is_digit text four two one
  form_one_digit end e =
      let t = text m (one m.hour) end in
      rw (known m (one m.hour) end, clash two_digit_form t 12 refl, clash blank_hour_form t 11 (no_blank m.hour), e)

  form_one : form_of (one_digit_hour m) ≡ gives OneDigit
  unfolding one_digit_hour
  form_one = form_one_digit nul (ends_once m)

  form_two_nuls : form_of (one_digit_hour_two_nuls m) ≡ gives OneDigit
  unfolding one_digit_hour_two_nuls
  form_two_nuls = form_one_digit (nul ++ nul) (ends_twice m)

-- the bounds that the digits of a moment need
pub record Small (m : Moment) : Type 0 where
  pub year : m.year < 10000
  pub month : m.month < 100
  pub day : m.day < 100
  pub hour : m.hour < 100
  pub minute : m.minute < 100
  pub second : m.second < 100

pub small_moment : (m : Moment) → moment_exists m ≡ true → Small m
unfolding moment_exists time_exists
small_moment m e =
    let r = simp tests at e in
    let on = date _ _ _ r.0 in
    let in_year = month_of on in
    record {
      year = omega (arith, on.to);
      month = omega arith;
      day = omega arith;
      hour = omega (arith, r.1);
      minute = omega (arith, r.1);
      second = omega (arith, r.1);
    }

-- a moment with the same six fields
same : (m : Moment) {y mo d h mi s : ℕ} → y ≡ m.year → mo ≡ m.month → d ≡ m.day → h ≡ m.hour → mi ≡ m.minute → s ≡ m.second
    → ◌≡◌ {A = Moment} (record { year = y; month = mo; day = d; hour = h; minute = mi; second = s }) m
same m a b c d e f = rw (a, b, c, d, e, f)

-- the text of a moment says the moment
module _ (m : Moment) (s : Small m) where
  moment_two : moment_in (two_digit_hour m) TwoDigits ≡ m
  unfolding two_digit_hour text four two moment_in moment_at two_at
  moment_two = same m (four_back m.year s.year) (two_back m.month s.month) (two_back m.day s.day) (two_back m.hour s.hour) (two_back m.minute s.minute) (two_back m.second s.second)

  module _ (h : m.hour < 10) where
    moment_blank : moment_in (blank_hour m) BlankAndDigit ≡ m
    unfolding blank_hour text four two one moment_in moment_at two_at
    moment_blank = same m (four_back m.year s.year) (two_back m.month s.month) (two_back m.day s.day) (one_back m.hour h) (two_back m.minute s.minute) (two_back m.second s.second)

    moment_one : (end : List ℕ) → moment_in (text m (one m.hour) end) OneDigit ≡ m
    unfolding text four two one moment_in moment_at two_at
    moment_one end = same m (four_back m.year s.year) (two_back m.month s.month) (two_back m.day s.day) (one_back m.hour h) (two_back m.minute s.minute) (two_back m.second s.second)

-- so the reader finds the moment of each of its texts
pub found : (m : Moment) (t : List ℕ) → Small m → HasForm m t → (hour : HourForm) × (form_of t ≡ gives hour) × (moment_in t hour ≡ m)
unfolding one_digit_hour one_digit_hour_two_nuls
found m t s (two_digits p) = rw p (TwoDigits, form_two m, moment_two m s)
found m t s (blank_and_digit h p) = rw p (BlankAndDigit, form_blank m, moment_blank m s h)
found m t s (one_digit h p) = rw p (OneDigit, form_one m, moment_one m s h nul)
found m t s (one_digit_two_nuls h p) = rw p (OneDigit, form_two_nuls m, moment_one m s h (nul ++ nul))
