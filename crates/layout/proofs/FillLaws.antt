-- Runs of values put into a list buffer, one after the other, are one run; no length changes.
-- Assumes nothing.
use mathlib.Core.Path.{◌≡◌, sym, ◌∙◌}
use mathlib.Core.List.{List, [], ◌∷◌, ◌++◌}
use Prim.Native.Nat.{ℕ, suc, ◌+◌}
use native.Mathlib.Omega.{arith}
use native.Mathlib.Nat.{add-zero, add-suc, suc-add}
use lib.ListN.{length, set, length-append}
use lib.Seq.{sets, length-sets}
use Rattle.layout.specs.Filling.{Put}

pub sets_append : (xs ys l : List ℕ) (i : ℕ) → sets l i (xs ++ ys) ≡ sets (sets l i xs) (i + length xs) ys
sets_append [] ys l i = rw add-zero
sets_append (x ∷ xs) ys l i = rw (add-suc, ← suc-add) (sets_append xs ys (set l i x) (suc i))

-- nothing, one value, one run after another
pub put_none : {o xs : List ℕ} {at : ℕ} → xs ≡ [] → Put o at xs at o
put_none {at = at} e = record { next = rw e (sym (add-zero at)); holds = rw e }

pub put_one : {o xs : List ℕ} {at k : ℕ} → xs ≡ k ∷ [] → Put o at xs (at + 1) (set o at k)
put_one e = record { next = rw e; holds = rw e }

pub put_then : {xs ys o o₁ o₂ : List ℕ} {at a r : ℕ} → Put o at xs a o₁ → Put o₁ a ys r o₂ → Put o at (xs ++ ys) r o₂
put_then {xs} {ys} {o} {at = at} p q =
    record {
      next = simp length-append (omega (arith, p.next, q.next));
      holds = q.holds ∙ rw (p.holds, p.next) (sym (sets_append xs ys o at));
    }

-- the buffer stays as long as it was
pub put_length : {o xs o' : List ℕ} {at r : ℕ} → Put o at xs r o' → length o' ≡ length o
put_length {o} {xs} {at = at} p = rw p.holds (length-sets o at xs)
