-- The walk towards a key: which slots it passes.
-- Assumes nothing.
use Rattle.std.specs.Prelude.{◌≡◌, Bool, ◌≢◌, ℕ, ltb}
use Rattle.table.specs.Pair.{as_data}
use Rattle.tree.specs.Reach.{Tab, Reached}

-- at slot x the walk towards k goes left for a smaller wanted key, right for a larger; 0 is nothing
abbrev pub dir : Tab → ℕ → ℕ → Bool
dir A k x = ltb k (A.key x)

abbrev pub next : Tab → ℕ → ℕ → ℕ
next A k x = A.link x (dir A k x)

-- the walk towards k from slot x passes y, or ends there
pub data On (A : Tab) (k y : ℕ) : ℕ → Type 0 where
  here : On A k y y
  down : {x : ℕ} → k ≢ A.key x → next A k x ≢ 0 → On A k y (next A k x) → On A k y x

-- the walk from the root
abbrev pub Way : Tab → ℕ → ℕ → Type 0
Way A k y = On A k y 0

-- the walk from x ends on a data slot with its key
abbrev pub Seen : Tab → ℕ → ℕ → Type 0
Seen A k x = (y : ℕ) × On A k y x × (A.key y ≡ k) × (A.state y ≡ as_data)

-- the link (p, d) to y agrees with the walk towards y's key
pub record Edge (A : Tab) (p : ℕ) (d : Bool) (y : ℕ) : Type 0 where
  pub apart : A.key y ≢ A.key p
  pub side : dir A (A.key y) p ≡ d
  pub way : Way A (A.key y) p

-- the tree is ordered: what is linked is found by its own key
abbrev pub Ordered : Tab → Type 0
Ordered A = (p y : ℕ) (d : Bool) → Reached A p → A.link p d ≡ y → y ≢ 0 → Edge A p d y
