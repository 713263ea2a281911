-- Laws of a layout's fields, once for every layout and every field.
-- Assumes nothing.
use mathlib.Core.Path.{◌≡◌, refl, sym, ap, ap₂, ◌∙◌}
use mathlib.Core.List.{List, [], ◌∷◌}
use mathlib.Core.Logic.{◌⊎◌, inl, inr, ◌≢◌}
use Prim.Native.Nat.{ℕ, zero, suc, ◌+◌, ◌*◌, ◌/◌, ◌%◌, ◌^◌, ◌≤◌, ◌<◌}
use native.Mathlib.Omega.{arith}
use native.Mathlib.Nat.{mod-one, mod-eq_of_lt, not-suc-le-zero, le_of_suc-le-suc}
use native.Mathlib.Decide.{dec_lt}
use lib.Pow.{pow-add, mod-pow-add, high, low}
use lib.Arith.{digits_lt}
use lib.ListN.{length, get_or, drop}
use Rattle.layout.specs.Word.{get}
use Rattle.layout.specs.Layout.{total, pos, wid, fld, fld_set, enc, dec, Fit, poses, pows, All}
use Rattle.layout.proofs.WordLaws.{Apart, get_put, get_put_other, put_lt, get_mod}

-- a field ends where the ones above it begin
pub inside : (ws : List ℕ) (i : ℕ) → pos ws i + wid ws i ≤ total ws
inside [] i = omega arith
inside (w ∷ ws) zero = omega arith
inside (w ∷ ws) (suc i) = omega (arith, inside ws i)

pub ends : (ws : List ℕ) (i j : ℕ) → i < j → pos ws j + wid ws j ≤ pos ws i
ends [] i j h = omega arith
ends (w ∷ ws) zero zero h = omega arith
ends (w ∷ ws) zero (suc j) h = inside ws j
ends (w ∷ ws) (suc i) zero h = omega arith
ends (w ∷ ws) (suc i) (suc j) h = ends ws i j (le_of_suc-le-suc h)

pub apart : (ws : List ℕ) (i j : ℕ) → i ≢ j → Apart (pos ws i) (wid ws i) (pos ws j) (wid ws j)
unfolding Apart
apart ws i j d = go (dec_lt i j)
  where
    go : Dec (i < j) → (pos ws i + wid ws i ≤ pos ws j) ⊎ (pos ws j + wid ws j ≤ pos ws i)
    go (yes h) = inr (ends ws i j h)
    go (no h) = inl (ends ws j i (omega arith))

-- the laws, once for every field of every layout
pub fld_same : (ws : List ℕ) (i n v : ℕ) → v < 2 ^ wid ws i → fld ws i (fld_set ws i n v) ≡ v
fld_same ws i n v h = get_put (pos ws i) (wid ws i) n v h

pub fld_other : (ws : List ℕ) (i j n v : ℕ) → i ≢ j → v < 2 ^ wid ws j → fld ws i (fld_set ws j n v) ≡ fld ws i n
fld_other ws i j n v d h = get_put_other (pos ws i) (wid ws i) (pos ws j) (wid ws j) n v (apart ws i j d) h

pub fld_set_lt : (ws : List ℕ) (i n v : ℕ) → n < 2 ^ total ws → v < 2 ^ wid ws i → fld_set ws i n v < 2 ^ total ws
fld_set_lt ws i n v hn hv = put_lt (total ws) (pos ws i) (wid ws i) n v (inside ws i) hn hv

pub enc_lt : (ws vs : List ℕ) → Fit ws vs → enc ws vs < 2 ^ total ws
enc_lt [] [] f = omega arith
enc_lt [] (v ∷ vs) f = absurd f
enc_lt (w ∷ ws) [] f = absurd f
enc_lt (w ∷ ws) (v ∷ vs) f = rw (pow-add 2 w (total ws)) (digits_lt f.0 (enc_lt ws vs f.1))

pub dec_mod : (ws : List ℕ) (b n : ℕ) → total ws ≤ b → dec ws (n % 2 ^ b) ≡ dec ws n
dec_mod [] b n h = refl
dec_mod (w ∷ ws) b n h = ap₂ {C = List ℕ} (λ x y. x ∷ y) (get_mod (total ws) w b n (omega arith)) (dec_mod ws b n (omega arith))

pub dec_enc : (ws vs : List ℕ) → Fit ws vs → dec ws (enc ws vs) ≡ vs
dec_enc [] [] f = refl
dec_enc [] (v ∷ vs) f = absurd f
dec_enc (w ∷ ws) [] f = absurd f
dec_enc (w ∷ ws) (v ∷ vs) f =
    let lt = enc_lt ws vs f.1 in
    ap₂ {C = List ℕ} (λ x y. x ∷ y)
    (rw (high v (total ws) lt) (mod-eq_of_lt f.0))
    (sym (dec_mod ws (total ws) (v * 2 ^ total ws + enc ws vs) (omega arith)) ∙ ap (dec ws) (low v (total ws) lt) ∙ dec_enc ws vs f.1)

pub enc_dec : (ws : List ℕ) (n : ℕ) → enc ws (dec ws n) ≡ n % 2 ^ total ws
enc_dec [] n = sym (mod-one n)
enc_dec (w ∷ ws) n = rw (enc_dec ws n) (sym (mod-pow-add n w (total ws)))

pub get_d_dec : (ws : List ℕ) (n i : ℕ) → get_or (dec ws n) i 0 ≡ fld ws i n
get_d_dec [] n i = sym (mod-one (n / 1))
get_d_dec (w ∷ ws) n zero = refl
get_d_dec (w ∷ ws) n (suc i) = get_d_dec ws n i

-- two numbers below the layout's size with the same fields are one number
pub same_fields : (ws : List ℕ) (m n : ℕ) → m < 2 ^ total ws → n < 2 ^ total ws → dec ws m ≡ dec ws n → m ≡ n
same_fields ws m n hm hn e =
    sym (mod-eq_of_lt hm) ∙ sym (enc_dec ws m) ∙ ap (enc ws) e ∙ enc_dec ws n ∙ mod-eq_of_lt hn

pub get_d_poses : (ws : List ℕ) (i : ℕ) → get_or (poses ws) i 0 ≡ pos ws i
get_d_poses [] i = refl
get_d_poses (w ∷ ws) zero = refl
get_d_poses (w ∷ ws) (suc i) = get_d_poses ws i

pub get_d_pows : (ws : List ℕ) (i : ℕ) → i < length ws → get_or (pows ws) i 0 ≡ 2 ^ get_or ws i 0
get_d_pows [] i h = absurd (not-suc-le-zero h)
get_d_pows (w ∷ ws) zero h = refl
get_d_pows (w ∷ ws) (suc i) h = get_d_pows ws i (le_of_suc-le-suc h)

pub All_at : (P : ℕ → Type 0) (xs : List ℕ) → All P xs → (i : ℕ) → i < length xs → P (get_or xs i 0)
All_at P [] a i h = absurd (not-suc-le-zero h)
All_at P (x ∷ xs) a zero h = a.0
All_at P (x ∷ xs) a (suc i) h = All_at P xs a.1 i (le_of_suc-le-suc h)
