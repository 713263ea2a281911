-- Parts of a block, and where they lie beyond it.
-- Assumes nothing.
use mathlib.Core.Path.{◌≡◌, refl}
use mathlib.Core.Bool.{Bool, true, false, ◌||◌, true≢false}
use mathlib.Core.Logic.{◌↔◌, ⊎_elim}
use Prim.Native.Nat.{ℕ, ◌+◌, ◌-◌, ◌≤◌, ◌<◌}
use native.Mathlib.Omega.{arith}
use lib.Dec.{ltb}
use borrow.Author.Tests.{ltb-true, ltb-false, le-ltb}
use Rattle.moment.proofs.Tests.{either}
use lib.ListN.{length, take, drop}
use mathlib.Core.List.{List}
use Rattle.refusal.specs.Said.{Said, refuses}
use Rattle.exif.specs.Parts.{beyond_of, of_part}

neither : (a b : Bool) → (a || b) ≡ false → (a ≡ false) × (b ≡ false)
neither true b e = absurd (true≢false e)
neither false b e = (refl, e)

-- a part that is not beyond its block ends within it
pub within : (size place n : ℕ) → beyond_of size place n ≡ false → place + n ≤ size
unfolding beyond_of
within size place n e =
    let r = neither (ltb size place) (ltb (size - place) n) e in
    omega (arith, ltb-false size place r.0, ltb-false (size - place) n r.1)

ends_beyond : (size place n : ℕ) → beyond_of size place n ≡ true → size < place + n
unfolding beyond_of
ends_beyond size place n e =
    ⊎_elim (λ l. omega (arith, ltb-true size place l)) (λ l. omega (arith, ltb-true (size - place) n l))
    (either (ltb size place) (ltb (size - place) n) e)

-- the code's two tests are the plain one, on numbers that do not overflow: the part ends beyond the block
pub beyond_iff : (size place n : ℕ) → (beyond_of size place n ≡ true) ↔ (size < place + n)
beyond_iff size place n = (ends_beyond size place n, told _ refl)
  where
    told : (b : Bool) → beyond_of size place n ≡ b → size < place + n → b ≡ true
    told true e h = refl
    told false e h = absurd (omega (arith, within size place n e))

pub not_beyond : (size place n : ℕ) → place + n ≤ size → beyond_of size place n ≡ false
unfolding beyond_of
not_beyond size place n h =
    let in_place : place ≤ size = omega arith in
    let in_size : n ≤ size - place = omega arith in
    simp (le-ltb size place in_place, le-ltb (size - place) n in_size)

-- whatever reads the whole text
module _ {A : Type 0} (read : List ℕ → Said A) (block : List ℕ) (place n : ℕ) where
  pub within_part : place + n ≤ length block → of_part read block place n ≡ read (take n (drop place block))
  unfolding of_part
  within_part h = simp (not_beyond (length block) place n h)

  refused : beyond_of (length block) place n ≡ true → of_part read block place n ≡ refuses 11
  unfolding of_part
  refused e = simp e

  -- where no whole text is refused 11, a part is refused 11 exactly if it ends beyond the block
  module _ (not_eleven : (t : List ℕ) → read t ≡ refuses 11 → ⊥) where
    only : (b : Bool) → beyond_of (length block) place n ≡ b → of_part read block place n ≡ refuses 11 → b ≡ true
    unfolding of_part
    only true p e = refl
    only false p e = absurd (not_eleven _ (simp p at e))

    pub part_beyond : (of_part read block place n ≡ refuses 11) ↔ (length block < place + n)
    part_beyond = (λ e. (beyond_iff _ _ _).0 (only _ refl e), λ h. refused ((beyond_iff _ _ _).1 h))
