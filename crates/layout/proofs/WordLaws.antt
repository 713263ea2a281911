-- Laws of a field, once for every position and width.
-- Assumes nothing.
use mathlib.Core.Path.{◌≡◌, sym, ap, ◌∙◌}
use Prim.Native.Nat.{ℕ, ◌+◌, ◌*◌, ◌/◌, ◌%◌, ◌^◌, ◌-◌, ◌≤◌, ◌<◌}
use mathlib.Core.Logic.{◌⊎◌, ⊎_elim}
use native.Mathlib.Omega.{arith}
use native.Mathlib.Nat.{mod-lt, div-lt_iff_lt-mul}
use lib.Pow.{pow_pos, pow-add, shr-shr, high, low, split, mod-mod-pow, shl_exact, field}
use Rattle.layout.specs.Word.{get, put}

-- a store keeps what is below the field, sets the field, and keeps what is above it
pub put_low : (p w n v : ℕ) → put p w n v % 2 ^ p ≡ n % 2 ^ p
unfolding put
put_low p w n v = low (n / 2 ^ (p + w) * 2 ^ w + v) p (mod-lt n (pow_pos p))

pub put_mid : (p w n v : ℕ) → put p w n v / 2 ^ p ≡ n / 2 ^ (p + w) * 2 ^ w + v
unfolding put
put_mid p w n v = high (n / 2 ^ (p + w) * 2 ^ w + v) p (mod-lt n (pow_pos p))

pub put_high : (p w n v : ℕ) → v < 2 ^ w → put p w n v / 2 ^ (p + w) ≡ n / 2 ^ (p + w)
put_high p w n v h = rw (← (shr-shr (put p w n v) p w), put_mid) (high (n / 2 ^ (p + w)) w h)

pub get_put : (p w n v : ℕ) → v < 2 ^ w → get p w (put p w n v) ≡ v
get_put p w n v h = rw put_mid (low (n / 2 ^ (p + w)) w h)

-- a field looks at nothing above it, and at nothing below it
pub get_mod : (q u p n : ℕ) → q + u ≤ p → get q u (n % 2 ^ p) ≡ get q u n
get_mod q u p n h =
    let e : (p - (u + q)) + (u + q) ≡ p = omega arith in
    rw (← (field (n % 2 ^ p) u q), ← (field n u q)) (ap (λ (m : ℕ). m / 2 ^ q) (rw e at (mod-mod-pow n (p - (u + q)) (u + q))))

pub get_div : (q u p n : ℕ) → p ≤ q → get q u n ≡ get (q - p) u (n / 2 ^ p)
get_div q u p n h =
    let e : p + (q - p) ≡ q = omega arith in
    rw (shr-shr n p (q - p), e)

-- two fields that do not overlap: a test that computes at numerals
unfoldable pub Apart : ℕ → ℕ → ℕ → ℕ → Type 0
Apart q u p w = (q + u ≤ p) ⊎ (p + w ≤ q)

pub get_put_other : (q u p w n v : ℕ) → Apart q u p w → v < 2 ^ w → get q u (put p w n v) ≡ get q u n
unfolding Apart
get_put_other q u p w n v a h = ⊎_elim
    (λ b. sym (get_mod q u p (put p w n v) b) ∙ ap (get q u) (put_low p w n v) ∙ get_mod q u p n b)
    (λ b. get_div q u (p + w) (put p w n v) b ∙ ap (get (q - (p + w)) u) (put_high p w n v h) ∙ sym (get_div q u (p + w) n b))
    a

-- the whole stays below 2 ^ b
pub put_lt : (b p w n v : ℕ) → p + w ≤ b → n < 2 ^ b → v < 2 ^ w → put p w n v < 2 ^ b
put_lt b p w n v hb hn hv =
    let e : b - (p + w) + (p + w) ≡ b = omega arith in
    let f : 2 ^ (b - (p + w)) * 2 ^ (p + w) ≡ 2 ^ b = sym (pow-add 2 (b - (p + w)) (p + w)) ∙ ap (λ (m : ℕ). 2 ^ m) e in
    let h : n / 2 ^ (p + w) < 2 ^ (b - (p + w)) = (div-lt_iff_lt-mul (pow_pos (p + w))).1 (rw f hn) in
    let k : put p w n v / 2 ^ (p + w) < 2 ^ (b - (p + w)) = rw (put_high p w n v hv) h in
    rw (← f) ((div-lt_iff_lt-mul (pow_pos (p + w))).0 k)

-- writing what stands there changes nothing
pub put_get : (p w n : ℕ) → put p w n (get p w n) ≡ n
unfolding put
put_get p w n = rw (← (shr-shr n p w), split (n / 2 ^ p) w) (split n p)

-- what code computes: take the old field off and put the new one on
pub put_code : (p w n v : ℕ) → put p w n v + get p w n * 2 ^ p ≡ n + v * 2 ^ p
unfolding put
put_code p w n v = omega (arith, put_get p w n)

pub get_lt : (p w n : ℕ) → get p w n < 2 ^ w
get_lt p w n = mod-lt (n / 2 ^ p) (pow_pos w)

-- a field, moved to its place, is at most the number
pub get_le : (p w n : ℕ) → get p w n * 2 ^ p ≤ n
unfolding put
get_le p w n = omega (arith, put_get p w n)

-- what code computes, as code writes it: shifts of a b-bit word
pub shifted : (b p w v : ℕ) → p + w ≤ b → v < 2 ^ w → v * 2 ^ p % 2 ^ b ≡ v * 2 ^ p
shifted b p w v h hv = shl_exact w p b hv (omega arith)

pub put_shifts : (b p w n v r : ℕ) → p + w ≤ b → v < 2 ^ w → r ≡ get p w n
    → n - r * 2 ^ p % 2 ^ b + v * 2 ^ p % 2 ^ b ≡ put p w n v
put_shifts b p w n v r h hv e =
    rw (e, shifted b p w v h hv, shifted b p w (get p w n) h (get_lt p w n))
    (omega (arith, put_code p w n v, get_le p w n))

pub get_shifts : (b p w n r : ℕ) → p + w ≤ b → r ≡ get p w n → r * 2 ^ p % 2 ^ b ≤ n
get_shifts b p w n r h e = rw (e, shifted b p w (get p w n) h (get_lt p w n)) (get_le p w n)

pub one_shifted : (b w : ℕ) → w < b → 1 * 2 ^ w % 2 ^ b ≡ 2 ^ w
one_shifted b w h = shl_exact 1 w b (omega arith) (omega arith) ∙ omega arith

-- two stores: the same field, and fields apart. Both follow from `put_code`, since a store is the sum of a difference
pub put_put : (p w n v v' : ℕ) → v < 2 ^ w → put p w (put p w n v) v' ≡ put p w n v'
put_put p w n v v' h =
    omega (arith, put_code p w n v, put_code p w n v', put_code p w (put p w n v) v', ap (λ (z : ℕ). z * 2 ^ p) (get_put p w n v h))

pub put_comm : (q u p w n v v' : ℕ) → Apart q u p w → Apart p w q u → v < 2 ^ w → v' < 2 ^ u
    → put q u (put p w n v) v' ≡ put p w (put q u n v') v
put_comm q u p w n v v' a b h h' =
    omega (
      arith,
      put_code p w n v,
      put_code q u n v',
      put_code q u (put p w n v) v',
      put_code p w (put q u n v') v,
      ap (λ (z : ℕ). z * 2 ^ q) (get_put_other q u p w n v a h),
      ap (λ (z : ℕ). z * 2 ^ p) (get_put_other p w q u n v' b h'),
    )
