-- Fields compared with their bounds all at once: a slack is added to every field of a packed number, and a field that is
-- over its bound, and no other, carries into the lowest bit of what stands above it. Once for every layout.
-- Assumes nothing.
use mathlib.Core.Path.{◌≡◌, refl, sym, ap, ◌∙◌, subst}
use mathlib.Core.Logic.{◌↔◌}
use mathlib.Core.List.{List, [], ◌∷◌}
use Prim.Native.Nat.{ℕ, ◌+◌, ◌-◌, ◌*◌, ◌/◌, ◌%◌, ◌^◌, ◌≤◌, ◌<◌}
use native.Mathlib.Omega.{arith}
use native.Mathlib.Nat.{mod-lt, mod-one, div-lt_iff_lt-mul, div-eq_of_lt, mod-eq_of_lt, zero-div, zero-mod, add-mul-div_right, le_trans, le_of_eq}
use lib.Pow.{pow_pos, pow_mono, pow-add, shr-shr, split, mod-pow-add}
use lib.Arith.{digits_lt, digits_div, digits_mod}
use lib.Bits.{bit_and, and_shr, and_mod, and_mask, and_block, and_zero_r, and_le_r}
use Rattle.layout.specs.Word.{get}
use Rattle.layout.specs.Layout.{total, enc}
use Rattle.layout.proofs.WordLaws.{get_lt}

-- the bit above each field is the same in n and in m
abbrev pub Quiet : List ℕ → ℕ → ℕ → Type 0
Quiet [] n m = Unit {0}
Quiet (w ∷ ws) n m = (n / 2 ^ (w + total ws) % 2 ≡ m / 2 ^ (w + total ws) % 2) × Quiet ws n m

-- each slack is even, and fits its field
abbrev pub Even : List ℕ → List ℕ → Type 0
Even [] [] = Unit {0}
Even [] (s ∷ ss) = ⊥
Even (w ∷ ws) [] = ⊥
Even (w ∷ ws) (s ∷ ss) = (s % 2 ≡ 0) × (s < 2 ^ w) × (0 < w) × Even ws ss

-- each field has room for its slack
abbrev pub Roomy : List ℕ → List ℕ → ℕ → Type 0
Roomy [] ss n = Unit {0}
Roomy (w ∷ ws) [] n = Unit {0}
Roomy (w ∷ ws) (s ∷ ss) n = (get (total ws) w n + s < 2 ^ w) × Roomy ws ss n

-- one field: q stands above it, f is its value, s its slack, and h the slack above
over : (w q f s h : ℕ) → f < 2 ^ w → s < 2 ^ w → h % 2 ≡ 0 → q % 2 ≡ (q + h + (f + s) / 2 ^ w) % 2 → f + s < 2 ^ w
over w q f s h a b e c =
    let u : (f + s) / 2 ^ w < 2 = (div-lt_iff_lt-mul (pow_pos w)).1 (omega arith) in
    let z : (f + s) / 2 ^ w < 1 = omega arith in
    omega (arith, (div-lt_iff_lt-mul (pow_pos w)).0 z)

even_more : (w s h : ℕ) → s % 2 ≡ 0 → h % 2 ≡ 0 → (s + h * 2 ^ w) % 2 ≡ 0
even_more w s h a b =
    let e : h ≡ h / 2 + h / 2 = omega arith in
    let f : h * 2 ^ w ≡ (h / 2 + h / 2) * 2 ^ w = ap (λ (z : ℕ). z * 2 ^ w) e in
    omega arith

-- the slack of one field more counts as slack above the fields below it
regroup : (w t n e s h : ℕ) → n + (s * 2 ^ t + e) + h * 2 ^ (w + t) ≡ n + e + (s + h * 2 ^ w) * 2 ^ t
regroup w t n e s h = omega (arith, ap (λ (z : ℕ). h * z) (pow-add 2 w t))

-- a sum whose lower part does not carry: what it has from t + w on
above : (w t n e s h : ℕ) → n % 2 ^ t + e < 2 ^ t
    → (n + (s * 2 ^ t + e) + h * 2 ^ (w + t)) / 2 ^ (w + t) ≡ n / 2 ^ (w + t) + h + (get t w n + s) / 2 ^ w
above w t n e s h l =
    let c : t + w ≡ w + t = omega arith in
    let q = n / 2 ^ (w + t) in
    let f = get t w n in
    let k : n ≡ (q * 2 ^ w + f) * 2 ^ t + n % 2 ^ t = sym (split n t) ∙ ap (λ (z : ℕ). z * 2 ^ t + n % 2 ^ t) (sym (split (n / 2 ^ t) w) ∙ ap (λ (z : ℕ). z * 2 ^ w + f) (shr-shr n t w ∙ ap (λ (z : ℕ). n / 2 ^ z) c)) in
    let m : n + e + (s + h * 2 ^ w) * 2 ^ t ≡ ((f + s) + (q + h) * 2 ^ w) * 2 ^ t + (n % 2 ^ t + e) = omega arith in
    let d : (((f + s) + (q + h) * 2 ^ w) * 2 ^ t + (n % 2 ^ t + e)) / 2 ^ t ≡ (f + s) + (q + h) * 2 ^ w = digits_div ((f + s) + (q + h) * 2 ^ w) l in
    ap (λ (z : ℕ). z / 2 ^ (w + t)) (regroup w t n e s h)
    ∙ ap (λ (z : ℕ). (n + e + (s + h * 2 ^ w) * 2 ^ t) / 2 ^ z) (sym c) ∙ sym (shr-shr (n + e + (s + h * 2 ^ w) * 2 ^ t) t w)
    ∙ ap (λ (z : ℕ). z / 2 ^ t / 2 ^ w) m ∙ ap (λ (z : ℕ). z / 2 ^ w) d ∙ add-mul-div_right (f + s) (q + h) (pow_pos w) ∙ omega arith

-- nor does it carry with one field more that has room
widens : (w t n e s : ℕ) → get t w n + s < 2 ^ w → n % 2 ^ t + e < 2 ^ t → n % 2 ^ (w + t) + (s * 2 ^ t + e) < 2 ^ (w + t)
widens w t n e s f l = rw (mod-pow-add n w t, pow-add 2 w t) (le_trans (le_of_eq (omega arith)) (digits_lt f l))

-- WHERE NO BIT ABOVE A FIELD CHANGES, EVERY FIELD HAS ROOM FOR ITS SLACK; h is what is added above the layout
pub roomy : (ws ss : List ℕ) (n h : ℕ) → Even ws ss → h % 2 ≡ 0 → Quiet ws n (n + enc ws ss + h * 2 ^ total ws)
    → Roomy ws ss n × (n % 2 ^ total ws + enc ws ss < 2 ^ total ws)
roomy [] [] n h v b q = (tt, omega (arith, mod-one n))
roomy [] (s ∷ ss) n h v b q = absurd v
roomy (w ∷ ws) [] n h v b q = absurd v
roomy (w ∷ ws) (s ∷ ss) n h v b q =
    let t = total ws in
    let e = enc ws ss in
    let r = roomy ws ss n (s + h * 2 ^ w) v.3 (even_more w s h v.0 b) (subst (λ (m : ℕ). Quiet ws n m) (regroup w t n e s h) q.1) in
    let f = over w (n / 2 ^ (w + t)) (get t w n) s h (get_lt t w n) v.1 b (q.0 ∙ ap (λ (z : ℕ). z % 2) (above w t n e s h r.1)) in
    ((f, r.0), widens w t n e s f r.1)

-- AND WHERE EVERY FIELD HAS ROOM, NO BIT ABOVE A FIELD CHANGES
pub stays : (ws ss : List ℕ) (n h : ℕ) → Even ws ss → h % 2 ≡ 0 → Roomy ws ss n
    → Quiet ws n (n + enc ws ss + h * 2 ^ total ws) × (n % 2 ^ total ws + enc ws ss < 2 ^ total ws)
stays [] [] n h v b r = (tt, omega (arith, mod-one n))
stays [] (s ∷ ss) n h v b r = absurd v
stays (w ∷ ws) [] n h v b r = absurd v
stays (w ∷ ws) (s ∷ ss) n h v b r =
    let t = total ws in
    let e = enc ws ss in
    let i = stays ws ss n (s + h * 2 ^ w) v.3 (even_more w s h v.0 b) r.1 in
    let z : (get t w n + s) / 2 ^ w ≡ 0 = div-eq_of_lt r.0 in
    let q : n / 2 ^ (w + t) % 2 ≡ (n / 2 ^ (w + t) + h + (get t w n + s) / 2 ^ w) % 2 = omega arith in
    ((q ∙ ap (λ (m : ℕ). m % 2) (sym (above w t n e s h i.1)), subst (λ (m : ℕ). Quiet ws n m) (sym (regroup w t n e s h)) i.0), widens w t n e s r.0 i.1)

zero_get : (p w : ℕ) → get p w 0 ≡ 0
zero_get p w = ap (λ (z : ℕ). z % 2 ^ w) (zero-div (2 ^ p)) ∙ zero-mod (2 ^ w)

-- a mask that has all bits of a field, and meets none in n: the field is 0
pub no_bits : (n c p w : ℕ) → bit_and n c ≡ 0 → c / 2 ^ p % 2 ^ w ≡ 2 ^ w - 1 → get p w n ≡ 0
no_bits n c p w e o =
    sym (and_mask (get p w n) w ∙ mod-eq_of_lt (get_lt p w n)) ∙ ap (bit_and (get p w n)) (sym o)
    ∙ sym (and_mod (n / 2 ^ p) (c / 2 ^ p) w) ∙ ap (λ (z : ℕ). z % 2 ^ w) (sym (and_shr n c p) ∙ ap (λ (z : ℕ). z / 2 ^ p) e)
    ∙ zero_get p w

-- the bits above the fields, as one mask
abbrev pub marks : List ℕ → ℕ
marks [] = 0
marks (w ∷ ws) = 2 ^ (w + total ws) + marks ws

pow_more : (w t : ℕ) → 0 < w → 2 ^ (1 + t) ≤ 2 ^ (w + t)
pow_more w t h = pow_mono (omega arith)

marks_lt : (ws ss : List ℕ) → Even ws ss → marks ws < 2 ^ (1 + total ws)
marks_lt [] [] v = omega arith
marks_lt [] (s ∷ ss) v = absurd v
marks_lt (w ∷ ws) [] v = absurd v
marks_lt (w ∷ ws) (s ∷ ss) v =
    omega (arith, marks_lt ws ss v.3, pow_more w (total ws) v.2, pow-add 2 1 (w + total ws))

-- what a mask meets: its top bit, and the rest
and_top : (a k c : ℕ) → c < 2 ^ k → bit_and a (2 ^ k + c) ≡ a / 2 ^ k % 2 * 2 ^ k + bit_and a c
and_top a k c l =
    let o : 2 ^ k + c ≡ 1 * 2 ^ k + c = omega arith in
    let z : 0 * 2 ^ k + c ≡ c = omega arith in
    ap (bit_and a) o ∙ met 1 ∙ ap (λ (x : ℕ). x * 2 ^ k + bit_and (a % 2 ^ k) c) (and_mask (a / 2 ^ k) 1)
    ∙ ap (λ (x : ℕ). a / 2 ^ k % 2 * 2 ^ k + x) (sym (sym (ap (bit_and a) z) ∙ met 0 ∙ ap (λ (x : ℕ). x * 2 ^ k + bit_and (a % 2 ^ k) c) (and_zero_r (a / 2 ^ k)) ∙ omega arith))
  where
    met : (b : ℕ) → bit_and a (b * 2 ^ k + c) ≡ bit_and (a / 2 ^ k) b * 2 ^ k + bit_and (a % 2 ^ k) c
    met b = ap (λ (x : ℕ). bit_and x (b * 2 ^ k + c)) (sym (split a k)) ∙ and_block k (a / 2 ^ k) b (a % 2 ^ k) c (mod-lt a (pow_pos k)) l

-- two numbers in which it meets the same
same_top : (n m k c : ℕ) → c < 2 ^ k → ((n / 2 ^ k % 2 ≡ m / 2 ^ k % 2) × (bit_and n c ≡ bit_and m c)) ↔ (bit_and n (2 ^ k + c) ≡ bit_and m (2 ^ k + c))
same_top n m k c l = (
  λ q. and_top n k c l ∙ ap (λ (x : ℕ). x * 2 ^ k + bit_and n c) q.0 ∙ ap (λ (x : ℕ). m / 2 ^ k % 2 * 2 ^ k + x) q.1 ∙ sym (and_top m k c l),
  λ e. (sym (top n) ∙ ap (λ (x : ℕ). x / 2 ^ k) e ∙ top m, sym (low n) ∙ ap (λ (x : ℕ). x % 2 ^ k) e ∙ low m),
)
  where
    top : (a : ℕ) → bit_and a (2 ^ k + c) / 2 ^ k ≡ a / 2 ^ k % 2
    top a = ap (λ (x : ℕ). x / 2 ^ k) (and_top a k c l) ∙ digits_div (a / 2 ^ k % 2) (omega (arith, and_le_r a c))

    low : (a : ℕ) → bit_and a (2 ^ k + c) % 2 ^ k ≡ bit_and a c
    low a = ap (λ (x : ℕ). x % 2 ^ k) (and_top a k c l) ∙ digits_mod (a / 2 ^ k % 2) (omega (arith, and_le_r a c))

-- the mask meets the same in two numbers exactly where the bits above the fields are the same
pub quiet : (ws ss : List ℕ) (n m : ℕ) → Even ws ss → Quiet ws n m ↔ (bit_and n (marks ws) ≡ bit_and m (marks ws))
quiet [] [] n m v = (λ q. and_zero_r n ∙ sym (and_zero_r m), λ e. tt)
quiet [] (s ∷ ss) n m v = absurd v
quiet (w ∷ ws) [] n m v = absurd v
quiet (w ∷ ws) (s ∷ ss) n m v =
    let l : marks ws < 2 ^ (w + total ws) = omega (arith, marks_lt ws ss v.3, pow_more w (total ws) v.2) in
    let t = same_top n m (w + total ws) (marks ws) l in
    let i = quiet ws ss n m v.3 in
    (λ q. t.0 (q.0, i.0 q.1), λ e. let d = t.1 e in (d.0, i.1 d.1))

-- ALL AT ONCE: one sum, one mask, and every field is within its bound; else the mask tells
pub at_once : (ws ss : List ℕ) (n : ℕ) → Even ws ss → (bit_and (n + enc ws ss) (marks ws) ≡ bit_and n (marks ws)) ↔ Roomy ws ss n
at_once ws ss n v =
    let z : n + enc ws ss ≡ n + enc ws ss + 0 * 2 ^ total ws = omega arith in (
      λ e. (roomy ws ss n 0 v refl (subst (λ (m : ℕ). Quiet ws n m) z ((quiet ws ss n (n + enc ws ss) v).1 (sym e)))).0,
      λ r. sym ((quiet ws ss n (n + enc ws ss) v).0 (subst (λ (m : ℕ). Quiet ws n m) (sym z) (stays ws ss n 0 v refl r).0)),
    )
