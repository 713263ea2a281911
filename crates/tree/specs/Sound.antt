-- A sound table, clause by clause. Rule 1 is judged before and apart: the root's own rules are not said here again.
-- Assumes nothing.
use Rattle.std.specs.Prelude.{◌≡◌, Bool, true, false, List, ◌≢◌, ◌⊎◌, ℕ, ◌<◌}
use Rattle.moment.specs.Key.{legal_of}
use Rattle.table.specs.Pair.{free, as_data, routing, slots_of, key_of, state_of, link_of, zero_pair}
use Rattle.table.specs.Rules.{bits_fine}
use Rattle.tree.specs.Reach.{Tab, tab_of, Under, Reached}

-- what hangs on one side of slot x
abbrev pub Beside : Tab → ℕ → Bool → ℕ → Type 0
Beside A x d y = (A.link x d ≢ 0) × Under A (A.link x d) y

pub record Sound (ws : List ℕ) : Type 0 where
  -- a sound table keeps the bit rules,
  pub bits : (i : ℕ) → i < slots_of ws → bits_fine ws i ≡ true
  -- zero free slots included,
  pub zeros : (i : ℕ) → i < slots_of ws → state_of ws i ≡ free → zero_pair ws i ≡ true
  -- and has no link beyond its slots;
  pub inside : (i : ℕ) (d : Bool) → i < slots_of ws → link_of ws i d < slots_of ws
  -- links from the root reach each slot at most once
  pub once : (p q y : ℕ) (d e : Bool) → Reached (tab_of ws) p → Reached (tab_of ws) q
      → link_of ws p d ≡ y → link_of ws q e ≡ y → y ≢ 0 → (p ≡ q) × (d ≡ e)
  -- and no free one;
  pub taken : (y : ℕ) → Reached (tab_of ws) y → state_of ws y ≢ free
  -- keys lie strictly between the bounds set by their ancestors: below them on their left,
  pub left : (x y : ℕ) → Reached (tab_of ws) x → Beside (tab_of ws) x true y → key_of ws y < key_of ws x
  -- above them on their right;
  pub right : (x y : ℕ) → Reached (tab_of ws) x → Beside (tab_of ws) x false y → key_of ws x < key_of ws y
  -- a reached routing slot has two children;
  pub two : (x : ℕ) (d : Bool) → Reached (tab_of ws) x → state_of ws x ≡ routing → link_of ws x d ≢ 0
  -- every data or routing slot is reached;
  pub alive : (i : ℕ) → i < slots_of ws → (state_of ws i ≡ as_data) ⊎ (state_of ws i ≡ routing) → Reached (tab_of ws) i
  -- every reached key but the root's is legal
  pub legal : (y : ℕ) → Reached (tab_of ws) y → y ≢ 0 → legal_of (key_of ws y) ≡ true
