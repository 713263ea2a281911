-- Bytes as the code goes over them: a NUL among them, a copy, the end of a line.
-- Assumes nothing.
use mathlib.Core.Path.{◌≡◌, refl, sym, ap, ◌∙◌}
use mathlib.Core.Bool.{Bool, true, false, cond, not, ◌||◌, or-false, or_assoc}
use mathlib.Core.List.{List, [], ◌∷◌, append_assoc}
use Prim.Native.Nat.{ℕ, ◌+◌, ◌-◌, ◌≤◌, ◌<◌}
use native.Mathlib.Nat.{add-zero}
use native.Mathlib.Omega.{arith}
use lib.Dec.{eqb, ltb}
use lib.ListN.{get_or, length, take, drop, length-drop, drop_of_length-le}
use native.Mathlib.Numerals.{add-one}
use lib.Seq.{drop-cons, sets, sets-eq, drop-drop, take_all}
use borrow.Rule.Slice.PartMut.{put_mid}
use borrow.Author.Tests.{ltb-false}
use Rattle.std.specs.Prelude.{Option, Some, None, unwrap_or}
use Rattle.std.specs.List.{position, position_or_len}
use Rattle.std.proofs.lemmas.List.Recursion.{is_position_or_len}
use Rattle.std.proofs.lemmas.List.Sums.{prefix_len-le-length}
use Rattle.lines.specs.Line.{has}
use Rattle.lines.specs.Ends.{one_line, end_of}

-- A BYTE AMONG OTHERS
has_more : (x : ℕ) (s : List ℕ) (i : ℕ) → i < length s → has x (drop i s) ≡ (eqb (get_or s i 0) x || has x (drop (i + 1) s))
unfolding has
has_more x s i h = rw (add-one, drop-cons s i 0 h)

has_none : (x : ℕ) (s : List ℕ) (i : ℕ) → length s ≤ i → has x (drop i s) ≡ false
unfolding has
has_none x s i h = rw (drop_of_length-le s {i = i} h)

-- what stands before a place, the byte there, and what stands behind it
pub has_step : (nul : Bool) (s : List ℕ) (i : ℕ) → i < length s → (nul || has 0 (drop i s)) ≡ ((nul || eqb (get_or s i 0) 0) || has 0 (drop (i + 1) s))
has_step nul s i h = ap (λ (b : Bool). nul || b) (has_more 0 s i h) ∙ sym (or_assoc nul (eqb (get_or s i 0) 0) (has 0 (drop (i + 1) s)))

pub has_end : (nul : Bool) (s : List ℕ) (i : ℕ) → length s ≤ i → (nul || has 0 (drop i s)) ≡ nul
has_end nul s i h = ap (λ (b : Bool). nul || b) (has_none 0 s i h) ∙ or-false nul

pub ruleset has_bytes = (has_step, has_end)

-- BYTES PUT AT A PLACE
pub sets_middle : (d s : List ℕ) (at n : ℕ) → n ≡ length s → at + n ≤ length d → put_mid at n d s ≡ sets d at s
sets_middle d s at n e h =
    let q = sets-eq s d at (omega arith) in
    rw (drop-drop n at d, e) (sym (q ∙ append_assoc (take at d) s (drop (at + length s) d)))

-- THE END OF A LINE is the place of the first line end
line_length : (s : List ℕ) → length (one_line s) ≡ position_or_len (λ b. eqb b 10) s
unfolding one_line
line_length s = is_position_or_len (λ t. length (one_line t)) (λ b. eqb b 10) refl step s
  where
    step : (b : ℕ) (t : List ℕ) → length (one_line (b ∷ t)) ≡ cond (eqb b 10) 0 (1 + length (one_line t))
    step b t = here (eqb b 10)
      where
        here : (k : Bool) → length (cond k [] (b ∷ one_line t)) ≡ cond k 0 (1 + length (one_line t))
        here true = refl
        here false = omega arith

or_length : (p : ℕ → Bool) (s : List ℕ) → position_or_len p s ≡ unwrap_or (position p s) (length s)
or_length p s = here (ltb (position_or_len p s) (length s)) refl
  where
    here : (k : Bool) → ltb (position_or_len p s) (length s) ≡ k → position_or_len p s ≡ unwrap_or (cond k (Some (position_or_len p s)) None) (length s)
    here true e = refl
    here false e = omega (arith, ltb-false _ _ e, prefix_len-le-length (λ b. not (p b)) s)

pub end_position : (s : List ℕ) (at : ℕ) → at ≤ length s → end_of s at ≡ at + unwrap_or (position (λ b. eqb b 10) (drop at s)) (length (drop at s))
unfolding end_of one_line
end_position s at h = ap (λ (n : ℕ). at + n) (line_length (drop at s) ∙ or_length (λ b. eqb b 10) (drop at s))

pub end_found : (s rest : List ℕ) (at n : ℕ) (r : Option ℕ) → at ≤ length s → rest ≡ take (length s - at) (drop at s) → r ≡ position (λ b. eqb b 10) rest → n ≡ unwrap_or r (length rest)
    → (at + n ≡ end_of s at) × (at ≤ at + n) × (at ≤ length s → at + n ≤ length s)
end_found s rest at n r h c f e =
    let p = λ (b : ℕ). eqb b 10 in
    let most = prefix_len-le-length (λ b. not (p b)) (drop at s) in
    let d = c ∙ take_all (length s - at) (drop at s) (omega (arith, length-drop at s)) in
    let is : n ≡ unwrap_or (position p (drop at s)) (length (drop at s)) = rw d at (rw f at e) in
    (rw is (sym (end_position s at h)), omega arith, λ _. omega (arith, or_length p (drop at s), length-drop at s))

pub end_out : (s : List ℕ) (at : ℕ) → length s ≤ at → end_of s at ≡ at
unfolding end_of one_line
end_out s at h = rw (drop_of_length-le s {i = at} h) (simp add-zero)
