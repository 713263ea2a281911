-- THE PATH FORM OF A SOUND TABLE, for the proofs above: what is linked is found by its own key, a key is in the set exactly
-- if the walk from the root ends on a data slot with it, a walk passes at most as many slots as there are; and a table
-- that is ordered in the path form and keeps the other clauses is sound.
-- Assumes nothing.
use mathlib.Core.Path.{◌≡◌, refl}
use mathlib.Core.Bool.{Bool, true}
use mathlib.Core.List.{List}
use mathlib.Core.Logic.{◌↔◌, ◌⊎◌, ◌≢◌}
use Prim.Native.Nat.{ℕ, zero, suc, ◌≤◌, ◌<◌}
use native.Mathlib.Omega.{arith}
use Rattle.moment.specs.Key.{legal_of}
use Rattle.table.specs.Pair.{free, as_data, routing, slots_of, key_of, state_of, link_of, zero_pair}
use Rattle.table.specs.Rules.{all_ones, bits_fine, table_fine}
use Rattle.tree.specs.Reach.{tab_of, Reached, InSet}
use Rattle.tree.specs.Sound.{Sound}
use Rattle.tree.specs.Walk.{Way, Seen, Ordered}
use Rattle.tree.proofs.Paths.{Between, from_sides, ordered, between, left_smaller, right_larger, unique_key, unique_parent, set_seen, seen_set}
use Rattle.tree.proofs.Trees.{Rooted, slots_on, short_way}
use Rattle.tree.proofs.TreeTest.{Fine, tree_there, tree_passes}
use Rattle.tree.proofs.Judged.{Root, root_of, link_in}

module _ (ws : List ℕ) (sound : Sound ws) where
  pub sound_between : Between (tab_of ws)
  sound_between = from_sides sound.left sound.right

  -- WHAT IS LINKED IS FOUND BY ITS OWN KEY
  pub sound_ordered : Ordered (tab_of ws)
  sound_ordered = ordered sound_between

  -- no two reached slots have one key
  pub sound_keys : (y z : ℕ) → Reached (tab_of ws) y → Reached (tab_of ws) z → key_of ws y ≡ key_of ws z → y ≡ z
  sound_keys y z r s e = unique_key sound_ordered r s e

  module _ (fine : table_fine ws ≡ true) where
    -- A KEY IS IN THE SET EXACTLY IF THE WALK FROM THE ROOT TOWARDS IT ENDS ON A DATA SLOT WITH IT
    pub set_walk : (k : ℕ) → k < all_ones → InSet ws k ↔ Seen (tab_of ws) k 0
    set_walk k l = (set_seen sound_ordered, seen_set (let o = (root_of ws fine).ones in λ e. omega arith))

    -- A WALK FROM THE ROOT PASSES AT MOST AS MANY SLOTS AS THERE ARE
    pub walk_short : (k y : ℕ) (w : Way (tab_of ws) k y) → slots_on w ≤ slots_of ws
    walk_short k y w = go (slots_of ws) refl
      where
        root : Root ws
        root = root_of ws fine

        go : (n : ℕ) → slots_of ws ≡ n → slots_on w ≤ n
        go zero e = let l = root.slots in absurd (omega arith)
        go (suc n) e =
            let l = root.slots in
            let t : Rooted (tab_of ws) (Fine ws) n =
            record {
              tree = tree_there ws n (link_of ws 0 true) 0 (key_of ws 0) (tree_passes ws sound (omega arith) n (omega arith));
              right = root.right;
            } in
            short_way t w

-- AND BACK: a table ordered in the path form that keeps the other clauses is sound
pub sound_from_paths : (ws : List ℕ) → Ordered (tab_of ws)
    → ((i : ℕ) → i < slots_of ws → bits_fine ws i ≡ true)
    → ((i : ℕ) → i < slots_of ws → state_of ws i ≡ free → zero_pair ws i ≡ true)
    → ((y : ℕ) → Reached (tab_of ws) y → state_of ws y ≢ free)
    → ((x : ℕ) (d : Bool) → Reached (tab_of ws) x → state_of ws x ≡ routing → link_of ws x d ≢ 0)
    → ((i : ℕ) → i < slots_of ws → (state_of ws i ≡ as_data) ⊎ (state_of ws i ≡ routing) → Reached (tab_of ws) i)
    → ((y : ℕ) → Reached (tab_of ws) y → y ≢ 0 → legal_of (key_of ws y) ≡ true)
    → Sound ws
sound_from_paths ws o b z t w a l =
    record {
      bits = b;
      zeros = z;
      inside = λ i d j. link_in ws i d (b i j);
      once = λ p q y d e r s f g n. unique_parent o d e r s f g n;
      taken = t;
      left = left_smaller (between o);
      right = right_larger (between o);
      two = w;
      alive = a;
      legal = l;
    }
