-- The laws of capture texts: what is read, what is written, and that the two fit together.
-- Assumes nothing.
use mathlib.Core.Path.{◌≡◌, refl, ap}
use mathlib.Core.Bool.{true}
use mathlib.Core.List.{List}
use mathlib.Core.Logic.{◌↔◌, ◌⊎◌, inr, ⊎_elim}
use Prim.Native.Nat.{ℕ, ◌+◌, ◌≤◌, ◌<◌}
use native.Mathlib.Omega.{arith}
use lib.ListN.{length, take, drop}
use Rattle.refusal.specs.Said.{Said, gives, refuses}
use Rattle.moment.specs.Calendar.{moment_exists}
use Rattle.moment.specs.declared.Moment.{Moment}
use Rattle.moment.proofs.Tests.{by_cases}
use Rattle.exif.specs.Forms.{HasForm, CaptureText, UnknownTime, all_blanks, four_colons}
use Rattle.exif.specs.Reading.{shaped, fits_byte, unknown_of, form_of, moment_in, judges, by_form, reads_text, reads}
use Rattle.exif.specs.declared.HourForm.{HourForm}
use Rattle.exif.proofs.Parts.{part_beyond, within_part}
use Rattle.exif.proofs.Reading.{Tells, told, small_moment, found}

-- what each answer of the reader means
abbrev Means : List ℕ → Said Moment → Type 0
Means t (gives m) = CaptureText m t
Means t (refuses n) = ((n ≡ 12) × UnknownTime t) ⊎ (n ≡ 10)

judged : (t : List ℕ) (m : Moment) → HasForm m t → Means t (judges m)
unfolding judges
judged t m f = by_cases (Means t) (moment_exists m) (λ e. record { exists = e; form = f }) (λ _. inr refl)

by_form_lem : (t : List ℕ) (f : Said HourForm) → Tells t f → Means t (by_form t f)
by_form_lem t (gives hour) f = judged t (moment_in t hour) f
by_form_lem t (refuses n) u = u

means : (t : List ℕ) → Means t (reads_text t)
unfolding reads_text
means t = by_form_lem t (form_of t) (told t)

-- a text of a form whose moment exists is read
read_as : (m : Moment) (t : List ℕ) (hour : HourForm) → moment_exists m ≡ true → form_of t ≡ gives hour → moment_in t hour ≡ m → reads_text t ≡ gives m
unfolding reads_text judges
read_as m t hour e f g = simp (f, g, e)

capture_read : (m : Moment) (t : List ℕ) → CaptureText m t → reads_text t ≡ gives m
capture_read m t c = let f = found m t (small_moment m c.exists) c.form in read_as m t f.0 c.exists f.1 f.2

unknown_refused : (t : List ℕ) → UnknownTime t → reads_text t ≡ refuses 12
unfolding reads_text form_of unknown_of shaped fits_byte
unknown_refused t (all_blanks p) = rw p
unknown_refused t (four_colons p) = rw p

-- the reader of a whole text never says 11
not_eleven : (t : List ℕ) → reads_text t ≡ refuses 11 → ⊥
not_eleven t e = ⊎_elim (λ u. let z : 11 ≡ 12 = u.0 in omega arith) (λ (z : 11 ≡ 10). omega arith) (rw e at (means t))

-- A text is read as the moment m exactly if it is one of the four forms of m, and m exists.
pub read_iff : (m : Moment) (t : List ℕ) → (reads_text t ≡ gives m) ↔ CaptureText m t
read_iff m t = (λ e. rw e at (means t), capture_read m t)

-- It is refused 12 exactly if it is one of the two texts of an unknown time.
pub unknown_iff : (t : List ℕ) → (reads_text t ≡ refuses 12) ↔ UnknownTime t
unknown_iff t = (λ e. ⊎_elim (λ u. u.1) (λ (z : 12 ≡ 10). absurd (omega arith)) (rw e at (means t)), unknown_refused t)

-- Anything else is refused 10.
pub else_ten : (t : List ℕ) → ((m : Moment) → CaptureText m t → ⊥) → (UnknownTime t → ⊥) → reads_text t ≡ refuses 10
else_ten t no_text no-unknown = rest (reads_text t) (means t)
  where
    rest : (s : Said Moment) → Means t s → s ≡ refuses 10
    rest (gives m) c = absurd (no_text m c)
    rest (refuses n) c = ⊎_elim (λ u. absurd (no-unknown u.1)) (λ e. ap refuses e) c

-- A part is refused 11 exactly if it ends beyond the block, whatever the numbers are. Any other part is read as a text.
pub beyond_refused : (block : List ℕ) (place n : ℕ) → (reads block place n ≡ refuses 11) ↔ (length block < place + n)
unfolding reads
beyond_refused block place n = part_beyond reads_text block place n not_eleven

pub within_read : (block : List ℕ) (place n : ℕ) → place + n ≤ length block → reads block place n ≡ reads_text (take n (drop place block))
unfolding reads
within_read = within_part reads_text
