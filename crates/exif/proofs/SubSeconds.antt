-- The laws of sub-second texts.
-- Assumes nothing.
use mathlib.Core.Path.{◌≡◌, refl, ap}
use mathlib.Core.Bool.{true, false}
use mathlib.Core.List.{List, [], ◌∷◌, ◌++◌}
use mathlib.Core.Logic.{◌↔◌}
use Prim.Native.Nat.{ℕ, ◌+◌, ◌/◌, ◌≤◌, ◌<◌}
use native.Mathlib.Omega.{arith}
use lib.Dec.{eqb}
use lib.ListN.{length, get_or, take, drop}
use borrow.Author.Tests.{eqb-true, ne_eqb}
use Rattle.refusal.specs.Said.{Said, gives, refuses}
use Rattle.moment.proofs.Tests.{by_cases}
use Rattle.exif.specs.Forms.{digit, one, two, nul, SubSecondText, absent, of_one_digit, of_two_digits}
use Rattle.exif.specs.Reading.{digit_of, two_at, fits_byte, shaped}
use Rattle.exif.specs.SubSecond.{hundredths_of, reads_sub_second}
use Rattle.exif.proofs.Digits.{small, last_is_digit, one_again, two_again, one_back, two_back}
use Rattle.exif.proofs.Shapes.{clash, each}
use Rattle.exif.proofs.Parts.{part_beyond, within_part}

abbrev Means : List ℕ → Said ℕ → Type 0
Means t (gives n) = SubSecondText n t
Means t (refuses n) = n ≡ 10

empty : (t : List ℕ) → eqb (length t) 0 ≡ true → t ≡ []
empty [] e = refl
empty (b ∷ t) e = let z = eqb-true (length {A = ℕ} (b ∷ t)) 0 e in absurd (omega arith)

said_one : (t : List ℕ) → shaped (100 ∷ 0 ∷ []) t ≡ true → SubSecondText (digit_of (get_or t 0 0)) t
said_one =
    each (100 ∷ 0 ∷ []) (λ t. SubSecondText (digit_of (get_or t 0 0)) t)
    (λ a h. of_one_digit (small (48 + a)) (rw (one_again a h)))

said_two : (t : List ℕ) → shaped (100 ∷ 100 ∷ 0 ∷ []) t ≡ true → SubSecondText (two_at t 0) t
unfolding two_at
said_two =
    each (100 ∷ 100 ∷ 0 ∷ []) (λ t. SubSecondText (two_at t 0) t)
    (λ a h b k. of_two_digits (omega (arith, small (48 + a), small (48 + b))) (rw (two_again a b h k)))

means : (t : List ℕ) → Means t (hundredths_of t)
unfolding hundredths_of
means t =
    by_cases (Means t) (eqb (length t) 0) (λ e. absent refl (empty t e))
    (λ _. by_cases (Means t) (shaped (100 ∷ 0 ∷ []) t) (said_one t)
    (λ _. by_cases (Means t) (shaped (100 ∷ 100 ∷ 0 ∷ []) t) (said_two t) (λ _. refl)))

no_nul : (n : ℕ) → fits_byte 0 (digit n) ≡ false
unfolding fits_byte
no_nul n = ne_eqb (digit n) 0 (λ e. omega arith)

text_read : (n : ℕ) (t : List ℕ) → SubSecondText n t → hundredths_of t ≡ gives n
unfolding hundredths_of shaped fits_byte one two two_at
text_read n t (absent e p) = rw (p, e)
text_read n t (of_one_digit h p) = let fits = last_is_digit n in rw (p, fits, one_back n h)
text_read n t (of_two_digits h p) =
    let other = clash (100 ∷ 0 ∷ []) (two n ++ nul) 1 (no_nul n) in
    rw (p, other, last_is_digit (n / 10), last_is_digit n, two_back n h)

-- the reader of a whole text never says 11
not_eleven : (t : List ℕ) → hundredths_of t ≡ refuses 11 → ⊥
not_eleven t e = let z : ◌≡◌ {A = ℕ} 11 10 = rw e at (means t) in omega arith

-- A text is read as n hundredths exactly if it is absent and n is 0, or one digit and a NUL, or two digits and a NUL, that
-- say n.
pub hundredths_iff : (n : ℕ) (t : List ℕ) → (hundredths_of t ≡ gives n) ↔ SubSecondText n t
hundredths_iff n t = (λ e. rw e at (means t), text_read n t)

-- Anything else is refused 10.
pub else_ten : (t : List ℕ) → ((n : ℕ) → SubSecondText n t → ⊥) → hundredths_of t ≡ refuses 10
else_ten t no_text = rest (hundredths_of t) (means t)
  where
    rest : (s : Said ℕ) → Means t s → s ≡ refuses 10
    rest (gives n) c = absurd (no_text n c)
    rest (refuses n) e = ap refuses e

-- A part is refused 11 exactly if it ends beyond the block, whatever the numbers are. Any other part is read as a text.
pub beyond_refused : (block : List ℕ) (place n : ℕ) → (reads_sub_second block place n ≡ refuses 11) ↔ (length block < place + n)
unfolding reads_sub_second
beyond_refused block place n = part_beyond hundredths_of block place n not_eleven

pub within_read : (block : List ℕ) (place n : ℕ) → place + n ≤ length block → reads_sub_second block place n ≡ hundredths_of (take n (drop place block))
unfolding reads_sub_second
within_read = within_part hundredths_of
