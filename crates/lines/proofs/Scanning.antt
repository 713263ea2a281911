-- The loop that reads a number, as a recursion, and that it finds just the numbers of Line.antt.
-- Assumes nothing.
use mathlib.Core.Path.{◌≡◌, refl, sym, ◌∙◌}
use mathlib.Core.Bool.{Bool, true, false, cond, ◌&&◌, and-false}
use mathlib.Core.List.{List, [], ◌∷◌}
use Prim.Native.Nat.{ℕ, zero, suc, ◌+◌, ◌*◌, ◌-◌, ◌^◌, ◌≤◌, ◌<◌}
use native.Mathlib.Nat.{add-suc, suc-add, zero-add, add-zero}
use native.Mathlib.Numerals.{add-one}
use native.Mathlib.Omega.{arith}
use lib.Dec.{leb, eqb}
use lib.ListN.{length, take, drop, get_or, length-drop, drop_of_length-le}
use lib.Seq.{drop-cons, take_all}
use borrow.Author.Tests.{leb-true, leb-false, le-leb, lt-leb, eq-eqb, ne_eqb}
use Rattle.std.specs.Char.{is_ascii_digit}
use Rattle.exif.specs.Reading.{is_digit}
use Rattle.exif.proofs.Digits.{digit_bounds}
use Rattle.lines.specs.Line.{has, word, behind, all_digits, is_number, value_from, value_of, Front, number, none, front_of}

-- after d digits that said v
unfoldable pub scan : ℕ → ℕ → List ℕ → Front
scan v d [] = none
scan v d (b ∷ s) =
    cond (eqb b 32) (cond (eqb d 0) none (number v s))
    (cond (is_digit b) (cond (leb 5 d) none (scan (v * 10 + (b - 48)) (suc d) s)) none)

-- what it comes to by Line.antt's words
abbrev after : ℕ → ℕ → List ℕ → Front
after v d s =
    cond (has 32 s && (leb 1 (d + length (word s)) && leb (d + length (word s)) 5 && all_digits (word s)))
    (number (value_from v (word s)) (behind s)) none

-- the blank comes: one digit at least went before
at_blank : (v d : ℕ) (s : List ℕ) → d ≤ 5 → cond (eqb d 0) none (number v s) ≡ cond (leb 1 d && leb d 5 && true) (number v s) none
at_blank v zero s h = refl
at_blank v (suc d) s h = simp (ne_eqb (suc d) 0 (λ e. omega arith), le-leb 1 (suc d) (omega arith), le-leb (suc d) 5 h)

pub scan_is : (v d : ℕ) (s : List ℕ) → d ≤ 5 → scan v d s ≡ after v d s
unfolding scan has word behind all_digits value_from
scan_is v d [] h = refl
scan_is v d (b ∷ s) h = here (eqb b 32) (is_digit b) (leb 5 d) refl refl refl (scan_is (v * 10 + (b - 48)) (suc d) s)
  where
    here : (k g f : Bool) → eqb b 32 ≡ k → is_digit b ≡ g → leb 5 d ≡ f
        → (suc d ≤ 5 → scan (v * 10 + (b - 48)) (suc d) s ≡ after (v * 10 + (b - 48)) (suc d) s) → scan v d (b ∷ s) ≡ after v d (b ∷ s)
    here true g f p q r next = simp (p, add-zero) (at_blank v d s h)
    here false true true p q r next =
        let five = leb-true 5 d r in
        simp (p, q, r, lt-leb (d + suc (length (word s))) 5 (omega arith), and-false)
    here false true false p q r next =
        let less = leb-false 5 d r in
        simp (p, q, r, add-suc) (simp suc-add at (next (omega arith)))
    here false false f p q r next = simp (p, q, and-false)

pub front_scan : (s : List ℕ) → front_of s ≡ scan 0 0 s
unfolding front_of is_number value_of
front_scan s = sym (simp zero-add at (scan_is 0 0 s (omega arith)))

-- A BYTE AT A PLACE, behind d digits that said v
module _ (s : List ℕ) (i v d : ℕ) (h : i < length s) where
  abbrev b : ℕ
  b = get_or s i 0

  one : scan v d (drop i s)
      ≡ cond (eqb b 32) (cond (eqb d 0) none (number v (drop (i + 1) s)))
      (cond (is_digit b) (cond (leb 5 d) none (scan (v * 10 + (b - 48)) (d + 1) (drop (i + 1) s))) none)
  unfolding scan
  one = rw (drop-cons s i 0 h) (simp add-one)

  -- a blank at once is no number; behind digits it ends one
  pub scan_first : b ≡ 32 → d ≡ 0 → scan v d (drop i s) ≡ none
  scan_first e z = one ∙ simp (eq-eqb b 32 e, eq-eqb d 0 z)

  pub scan_blank : b ≡ 32 → (d ≡ 0 → ⊥) → scan v d (drop i s) ≡ number v (take (length s - (i + 1)) (drop (i + 1) s))
  scan_blank e z =
      let rest = take_all (length s - (i + 1)) (drop (i + 1) s) (omega (arith, length-drop (i + 1) s)) in
      one ∙ simp (eq-eqb b 32 e, ne_eqb d 0 z, rest)

  -- what is no digit ends none, and a sixth digit is one too many
  pub scan_other : (b ≡ 32 → ⊥) → is_ascii_digit b ≡ false → scan v d (drop i s) ≡ none
  unfolding is_digit
  scan_other e g = one ∙ simp (ne_eqb b 32 e, g)

  pub scan_long : (b ≡ 32 → ⊥) → is_ascii_digit b ≡ true → 5 ≤ d → scan v d (drop i s) ≡ none
  unfolding is_digit
  scan_long e g f = one ∙ simp (ne_eqb b 32 e, g, le-leb 5 d f)

  pub scan_more : (b ≡ 32 → ⊥) → is_ascii_digit b ≡ true → d < 5 → scan v d (drop i s) ≡ scan (v * 10 + (b - 48)) (d + 1) (drop (i + 1) s)
  unfolding is_digit
  scan_more e g f = one ∙ simp (ne_eqb b 32 e, g, lt-leb 5 d f)

pub scan_out : (s : List ℕ) (i v d : ℕ) → length s ≤ i → scan v d (drop i s) ≡ none
unfolding scan
scan_out s i v d h = rw (drop_of_length-le s {i = i} h)

-- the value of so many digits
four : (d : ℕ) → d < 5 → 10 ^ d ≤ 10000
four zero h = omega arith
four (suc zero) h = omega arith
four (suc (suc zero)) h = omega arith
four (suc (suc (suc zero))) h = omega arith
four (suc (suc (suc (suc zero)))) h = omega arith
four (suc (suc (suc (suc (suc d))))) h = absurd (omega arith)

pub small : (v d : ℕ) → v < 10 ^ d → d < 5 → v < 10000
small v d h g = let f = four d g in omega arith

pub more : (v d b : ℕ) → v < 10 ^ d → is_ascii_digit b ≡ true → v * 10 + (b - 48) < 10 ^ (d + 1)
unfolding is_digit
more v d b h g = let r = digit_bounds b g in rw add-one (omega arith)

-- what the loop needs of all this
pub ruleset scans = (front_scan, scan_first, scan_blank, scan_other, scan_long, scan_more, scan_out, small, more)
