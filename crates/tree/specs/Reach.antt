-- What links reach, and the set at a moment.
-- Assumes nothing.
use Rattle.std.specs.Prelude.{◌≡◌, Bool, List, ◌≢◌, ℕ}
use Rattle.table.specs.Pair.{as_data, key_of, state_of, link_of}

-- a table as functions of the slot: its state, its key, its link on a side (true: left); link 0 is no child
pub record Tab : Type 0 where
  pub state : ℕ → ℕ
  pub key : ℕ → ℕ
  pub link : ℕ → Bool → ℕ

abbrev pub tab_of : List ℕ → Tab
tab_of ws = record { state = state_of ws; key = key_of ws; link = link_of ws }

-- what hangs at slot x: x itself, and the child by a link of what hangs there, whatever its state
pub data Under (A : Tab) (x : ℕ) : ℕ → Type 0 where
  top : {y : ℕ} → y ≡ x → Under A x y
  kid : {y p : ℕ} (d : Bool) → Under A x p → A.link p d ≡ y → y ≢ 0 → Under A x y

-- reached from the root, which is slot 0
abbrev pub Reached : Tab → ℕ → Type 0
Reached A y = Under A 0 y

-- the set at a moment: keys of data slots reached from the root, without the root's
abbrev pub Has : Tab → ℕ → Type 0
Has A k = (y : ℕ) × (y ≢ 0) × (A.state y ≡ as_data) × (A.key y ≡ k) × Reached A y

abbrev pub InSet : List ℕ → ℕ → Type 0
InSet ws k = Has (tab_of ws) k
