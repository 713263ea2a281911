-- Sixteen digits, counted from the last to the first, are those that `{:016X}` writes.
use Rattle.std.proofs.Common.{ℕ, zero, suc, Bool, true, false, cond, List, [], ◌∷◌, ◌++◌, ◌≡◌, ◌≤◌, ◌<◌, ◌+◌, ◌-◌, ◌/◌, ◌%◌, ◌^◌, length, drop, set, replicate, append-nil, refl, sym, ap, ◌∙◌, eqb, arith, IsAscii, IsUtf8, subst}
use Rattle.std.proofs.Math.Nat.{pow-zero, pow-suc}
use Rattle.std.proofs.lemmas.Bool.{eqb-true, eqb-false}
use Rattle.std.proofs.lemmas.List.{drop-set}
use Rattle.std.proofs.lemmas.Str.{IsUtf8-from_ascii}
use Rattle.std.specs.Fmt.{digit_glyph, digits_onto, digits, padded_integral, char_count, format_spec}
use Rattle.script.specs.Records.{sixteen_digits}

-- the last k digits of n, zeros too, and then acc
abbrev pub places : ℕ → ℕ → List ℕ → List ℕ
places zero n acc = acc
places (suc k) n acc = places k (n / 16) (digit_glyph true (n % 16) ∷ acc)

slide : (k x : ℕ) (xs : List ℕ) → replicate k x ++ (x ∷ xs) ≡ x ∷ (replicate k x ++ xs)
slide zero x xs = refl
slide (suc k) x xs = ap (λ l. x ∷ l) (slide k x xs)

zeros : (k : ℕ) (acc : List ℕ) → places k 0 acc ≡ replicate k 48 ++ acc
zeros zero acc = refl
zeros (suc k) acc = zeros k (48 ∷ acc) ∙ slide k 48 acc

filled : (k j n : ℕ) (acc : List ℕ) → 0 < k → n < 16 ^ k → k ≤ j
    → places k n acc ≡ replicate (k + length acc - length (digits_onto j 16 true n acc)) 48 ++ digits_onto j 16 true n acc
filled zero j n acc some below room = absurd (omega arith)
filled (suc k) zero n acc some below room = absurd (omega arith)
filled (suc k) (suc j) n acc some below room =
    by (eqb (n / 16) 0) refl (λ left. filled k j (n / 16) (digit_glyph true (n % 16) ∷ acc) left fits (omega arith))
  where
    more : List ℕ
    more = digit_glyph true (n % 16) ∷ acc

    rest : List ℕ
    rest = digits_onto j 16 true (n / 16) more

    fits : n / 16 < 16 ^ k
    fits = omega (arith, pow-suc 16 k)

    positive : (i : ℕ) → 0 < n / 16 → n / 16 < 16 ^ i → 0 < i
    positive zero large small = absurd (omega (arith, pow-zero 16))
    positive (suc i) large small = omega arith

    by : (b : Bool) → eqb (n / 16) 0 ≡ b → (0 < k → places k (n / 16) more ≡ replicate (k + length more - length rest) 48 ++ rest)
        → places k (n / 16) more ≡ replicate (suc k + length acc - length (cond b more rest)) 48 ++ cond b more rest
    by true e front =
        let count : k ≡ suc k + length acc - suc (length acc) = omega arith in
        ap (λ m. places k m more) (eqb-true (n / 16) 0 e) ∙ zeros k more ∙ ap (λ m. replicate m 48 ++ more) count
    by false e front =
        let large : 0 < n / 16 = omega (arith, eqb-false (n / 16) 0 e) in
        let count : k + suc (length acc) ≡ suc k + length acc = omega arith in
        front (positive k large fits) ∙ ap (λ m. replicate (m - length rest) 48 ++ rest) count

padded_front : (ds : List ℕ) → padded_integral (format_spec 32 0 4 16 (2 ^ 64 - 1)) false [] ds ≡ replicate (16 - length ds) 48 ++ ds
unfolding padded_integral char_count
padded_front ds =
    let count : 16 - length ds - 0 - 0 ≡ 16 - length ds = omega arith in
    ap (λ m. replicate m 48 ++ (ds ++ [])) count ∙ ap (λ l. replicate (16 - length ds) 48 ++ l) (append-nil ds)

padded_places : (ds front : List ℕ) → front ≡ replicate (16 + 0 - length ds) 48 ++ ds
    → front ≡ padded_integral (format_spec 32 0 4 16 (2 ^ 64 - 1)) false [] ds
padded_places ds front is =
    let count : 16 + 0 - length ds ≡ 16 - length ds = omega arith in
    is ∙ ap (λ m. replicate m 48 ++ ds) count ∙ sym (padded_front ds)

pub sixteen_places : (n : ℕ) → n < 2 ^ 64 → places 16 n [] ≡ sixteen_digits n
unfolding digits
sixteen_places n small = padded_places (digits_onto 64 16 true n []) (places 16 n []) (filled 16 64 n [] (omega arith) (omega arith) (omega arith))

-- digits are ASCII, and so they are text
glyph_ascii : (d : ℕ) → digit_glyph true (d % 16) < 128
glyph_ascii d = grind arith

places_ascii : (k n : ℕ) (acc : List ℕ) → IsAscii acc → IsAscii (places k n acc)
places_ascii zero n acc ascii = ascii
places_ascii (suc k) n acc ascii = places_ascii k (n / 16) (digit_glyph true (n % 16) ∷ acc) with_front
  where
    with_front : IsAscii (digit_glyph true (n % 16) ∷ acc)
    with_front zero = glyph_ascii n
    with_front (suc i) = ascii i

pub sixteen_utf8 : (n : ℕ) (ds : List ℕ) → n < 2 ^ 64 → ds ≡ sixteen_digits n → IsUtf8 ds
sixteen_utf8 n ds small is =
    IsUtf8-from_ascii ds (subst IsAscii (sixteen_places n small ∙ sym is) (places_ascii 16 n [] (λ i. omega arith)))

-- a digit is put in front of those that are there
pub put : (ds : List ℕ) (place rest glyph : ℕ) (all : List ℕ) → 0 < place → place ≤ length ds → glyph ≡ digit_glyph true (rest % 16)
    → places place rest (drop place ds) ≡ all → places (place - 1) (rest / 16) (drop (place - 1) (set ds (place - 1) glyph)) ≡ all
put ds zero rest glyph all some within is so_far = absurd (omega arith)
put ds (suc k) rest glyph all some within is so_far =
    let before : suc k - 1 ≡ k = omega arith in
    let next : k + 1 ≡ suc k = omega arith in
    rw before (ap (λ l. places k (rest / 16) l) (drop-set ds k glyph (omega arith) ∙ ap (λ g. g ∷ drop (k + 1) ds) is ∙ ap (λ m. digit_glyph true (rest % 16) ∷ drop m ds) next) ∙ so_far)
