-- The first slot in order, if there is one.
-- Assumes nothing.
use mathlib.Core.Path.{◌≡◌, refl, sym, ◌∙◌}
use mathlib.Core.Bool.{Bool, true, false, ◌||◌}
use mathlib.Core.List.{List, [], ◌∷◌, ◌++◌}
use Prim.Native.Nat.{ℕ, ◌-◌}
use lib.Dec.{eqb}
use Rattle.refusal.specs.Said.{gives, refuses}
use Rattle.table.specs.Pair.{as_data, slots_of, key_of, link_of}
use Rattle.table.specs.Rules.{all_ones}
use Rattle.tree.specs.Judge.{Want, want, wanted, own, inorder, reached_of, keys_at}
use Rattle.std.specs.Prelude.{Option, None, Some, slice_get}
use Rattle.tree.specs.Answers.{keys_of, head_of}
use Rattle.tree.proofs.Recursions.{in_stop, in_here}

head_some : (xs ys : List ℕ) (y : ℕ) → Some y ≡ slice_get xs 0 → Some y ≡ slice_get (xs ++ ys) 0
head_some [] ys y e = cc
head_some (x ∷ xs) ys y e = e

pub head_none : (xs : List ℕ) → None ≡ slice_get xs 0 → xs ≡ []
head_none [] e = refl
head_none (x ∷ xs) e = cc

-- what one slot comes to: none, one on the left, the slot, one on the right
pub least_none : (ws : List ℕ) (w : Want) (n x : ℕ) → (eqb n 0 || eqb x 0) ≡ true → None ≡ slice_get (inorder ws w n x) 0
least_none ws w n x h = rw (in_stop ws w n x h)

module _ (ws : List ℕ) (w : Want) (n x l : ℕ) (go : (eqb n 0 || eqb x 0) ≡ false) (el : l ≡ link_of ws x true) where
  pub least_left : (y : ℕ) → Some y ≡ slice_get (inorder ws w (n - 1) l) 0 → Some y ≡ slice_get (inorder ws w n x) 0
  least_left y e =
      rw (in_here ws w n x l (link_of ws x false) go el refl)
      (head_some (inorder ws w (n - 1) l) (own (wanted ws w x) x ++ inorder ws w (n - 1) (link_of ws x false)) y e)

  module _ (e : inorder ws w (n - 1) l ≡ []) (b : Bool) (eb : b ≡ wanted ws w x) where
    pub least_own : b ≡ true → Some x ≡ slice_get (inorder ws w n x) 0
    least_own h = rw (in_here ws w n x l (link_of ws x false) go el refl, e, sym eb ∙ h)

    pub least_right : b ≡ false → (r : ℕ) (c : Option ℕ) → r ≡ link_of ws x false → c ≡ slice_get (inorder ws w (n - 1) r) 0 → c ≡ slice_get (inorder ws w n x) 0
    least_right h r c er ec = rw (in_here ws w n x l r go el er, e, sym eb ∙ h) ec

-- the first key of all
module _ (ws : List ℕ) (from n l : ℕ) (en : n ≡ slots_of ws) (el : l ≡ link_of ws 0 true) where
  pub slot_none : None ≡ slice_get (inorder ws (want as_data as_data from all_ones) n l) 0 → refuses 13 ≡ head_of (keys_of ws from all_ones)
  unfolding keys_of reached_of head_of keys_at
  slot_none e =
      rw (← en, ← el, head_none (inorder ws (want as_data as_data from all_ones) n l) e)

  pub slot_some : (s k : ℕ) → Some s ≡ slice_get (inorder ws (want as_data as_data from all_ones) n l) 0 → k ≡ key_of ws s
      → gives k ≡ head_of (keys_of ws from all_ones)
  unfolding keys_of reached_of head_of keys_at
  slot_some s k e ek = rw (← en, ← el) (go (inorder ws (want as_data as_data from all_ones) n l) e)
    where
      go : (xs : List ℕ) → Some s ≡ slice_get xs 0 → gives k ≡ head_of (keys_at ws xs)
      go [] e = cc
      go (x ∷ xs) e = let q : s ≡ x = cc in rw (ek, q)
