-- THE FORM OF A LINE: it is read as camera, number and text exactly if it is one to five digits, one blank, one to five digits,
-- one blank and the text, without a NUL.
-- Assumes nothing.
use mathlib.Core.Path.{◌≡◌, refl, ap, ◌∙◌}
use mathlib.Core.Bool.{Bool, true, false, cond, ◌&&◌, ◌||◌, and-eq-true_iff, false≢true}
use mathlib.Core.List.{List, [], ◌∷◌, ◌++◌, append_assoc}
use mathlib.Core.Logic.{◌↔◌}
use Prim.Native.Nat.{ℕ}
use native.Mathlib.Omega.{arith}
use lib.Dec.{eqb}
use borrow.Author.Tests.{eqb-true, ne_eqb}
use Rattle.exif.specs.Forms.{blank}
use Rattle.exif.proofs.Digits.{digit_bounds}
use Rattle.lines.specs.Line.{has, word, behind, all_digits, is_number, value_of, Front, number, none, front_of, form, broken, with_number, with_camera, form_of, Formed}

-- a list with a blank is what stands before the first one, the blank, and what stands behind it
split_blank : (s : List ℕ) → has 32 s ≡ true → s ≡ word s ++ 32 ∷ behind s
unfolding has word behind
split_blank [] e = absurd (false≢true e)
split_blank (b ∷ s) e = here (eqb b 32) refl e (split_blank s)
  where
    here : (k : Bool) → eqb b 32 ≡ k → (k || has 32 s) ≡ true → (has 32 s ≡ true → s ≡ word s ++ 32 ∷ behind s)
        → b ∷ s ≡ cond (eqb b 32) [] (b ∷ word s) ++ 32 ∷ cond (eqb b 32) s (behind s)
    here true p q next = rw p (ap (λ (z : ℕ). z ∷ s) (eqb-true b 32 p))
    here false p q next = rw p (ap (λ (z : List ℕ). b ∷ z) (next q))

-- digits have no blank among them
record Before (digits rest : List ℕ) : Type 0 where
  blanked : has 32 (digits ++ 32 ∷ rest) ≡ true
  front : word (digits ++ 32 ∷ rest) ≡ digits
  back : behind (digits ++ 32 ∷ rest) ≡ rest

digits_before : (digits rest : List ℕ) → all_digits digits ≡ true → Before digits rest
unfolding has word behind all_digits
digits_before [] rest e = record { blanked = refl; front = refl; back = refl }
digits_before (b ∷ digits) rest e =
    let r = simp and-eq-true_iff at e in
    let d = digit_bounds b r.0 in
    let no = ne_eqb b 32 (λ z. omega arith) in
    let next = digits_before digits rest r.1 in
    record {
      blanked = rw no next.blanked;
      front = rw no (ap (λ (z : List ℕ). b ∷ z) next.front);
      back = rw no next.back;
    }

-- a number and a blank at the front
record Numbered (s : List ℕ) (v : ℕ) (rest : List ℕ) : Type 0 where
  digits : List ℕ
  is : s ≡ digits ++ 32 ∷ rest
  fine : is_number digits ≡ true
  value : value_of digits ≡ v

front_tells : (s : List ℕ) (v : ℕ) (rest : List ℕ) → front_of s ≡ number v rest → Numbered s v rest
unfolding front_of
front_tells s v rest e = told (has 32 s && is_number (word s)) refl e
  where
    told : (k : Bool) → (has 32 s && is_number (word s)) ≡ k → cond k (number (value_of (word s)) (behind s)) none ≡ number v rest → Numbered s v rest
    told true p q =
        let r = simp and-eq-true_iff at p in
        let back : behind s ≡ rest = cc in
        record { digits = word s; is = split_blank s r.0 ∙ ap (λ (z : List ℕ). word s ++ 32 ∷ z) back; fine = r.1; value = cc }
    told false p q = let z : ◌≡◌ {A = ℕ} 0 1 = cc in absurd (omega arith)

front_found : (s : List ℕ) (v : ℕ) (rest : List ℕ) → Numbered s v rest → front_of s ≡ number v rest
unfolding front_of is_number
front_found s v rest n =
    let d = n.digits in
    let r = simp and-eq-true_iff at n.fine in
    let b = digits_before d rest r.1 in
    ap front_of n.is ∙ rw (b.blanked, b.front, b.back) (rw n.fine (ap (λ (k : ℕ). number k rest) n.value))

-- both numbers
with_number_lem : (camera : ℕ) (f : Front) (c n : ℕ) (text : List ℕ) → with_number camera f ≡ form c n text → (f ≡ number n text) × (camera ≡ c)
with_number_lem camera (number v t) c n text e = (cc, cc)
with_number_lem camera none c n text e = let z : ◌≡◌ {A = ℕ} 0 1 = cc in absurd (omega arith)

with_camera_lem : (f : Front) (c n : ℕ) (text : List ℕ) → with_camera f ≡ form c n text → (rest : List ℕ) × (f ≡ number c rest) × (front_of rest ≡ number n text)
with_camera_lem (number v rest) c n text e =
    let w = with_number_lem v (front_of rest) c n text e in
    (rest, ap (λ (k : ℕ). number k rest) w.1, w.0)
with_camera_lem none c n text e = let z : ◌≡◌ {A = ℕ} 0 1 = cc in absurd (omega arith)

both : (d e text : List ℕ) {s rest : List ℕ} → s ≡ d ++ 32 ∷ rest → rest ≡ e ++ 32 ∷ text → s ≡ d ++ blank ++ e ++ blank ++ text
both d e text p q = p ∙ rw q (simp append_assoc)

formed : (line : List ℕ) (c n : ℕ) (text : List ℕ) → form_of line ≡ form c n text → Formed line c n text
unfolding form_of
formed line c n text e = told (has 0 line) refl e
  where
    told : (k : Bool) → has 0 line ≡ k → cond k broken (with_camera (front_of line)) ≡ form c n text → Formed line c n text
    told true p q = let z : ◌≡◌ {A = ℕ} 0 1 = cc in absurd (omega arith)
    told false p q =
        let w = with_camera_lem (front_of line) c n text q in
        let rest = w.0 in
        let a = front_tells line c rest w.1 in
        let b = front_tells rest n text w.2 in
        record {
          first = a.digits;
          second = b.digits;
          is = both a.digits b.digits text a.is b.is;
          camera_digits = a.fine;
          number_digits = b.fine;
          camera_is = a.value;
          number_is = b.value;
          no_nul = p;
        }

form_found : (line : List ℕ) (c n : ℕ) (text : List ℕ) → Formed line c n text → form_of line ≡ form c n text
unfolding form_of
form_found line c n text f =
    let rest = f.second ++ 32 ∷ text in
    let a = front_found line c rest (record { digits = f.first; is = f.is ∙ simp append_assoc; fine = f.camera_digits; value = f.camera_is }) in
    let b = front_found rest n text (record { digits = f.second; is = refl; fine = f.number_digits; value = f.number_is }) in
    rw (f.no_nul, a) (ap (with_number c) b)

pub form_iff : (line : List ℕ) (camera n : ℕ) (text : List ℕ) → (form_of line ≡ form camera n text) ↔ Formed line camera n text
form_iff line camera n text = (formed line camera n text, form_found line camera n text)
