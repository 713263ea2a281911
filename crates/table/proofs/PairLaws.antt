-- Laws of the accessors and updates, each said once over the number of the field or the word.
-- Assumes nothing.
use mathlib.Core.Path.{◌≡◌, refl, sym, ap, ap₂}
use mathlib.Core.Bool.{Bool, true, false}
use mathlib.Core.List.{List, [], ◌∷◌}
use mathlib.Core.Logic.{◌≢◌}
use Prim.Native.Nat.{ℕ, suc, ◌+◌, ◌-◌, ◌*◌, ◌/◌, ◌%◌, ◌^◌, ◌≤◌, ◌<◌}
use native.Mathlib.Omega.{arith}
use native.Mathlib.Decide.{dec_lt, ℕ_discrete}
use lib.Dec.{leb}
use lib.ListN.{length, length-set, get_or-eq_default}
use lib.Seq.{get_or-set_same, get_or-set_other, set_out, set-set, set-get_or}
use borrow.Author.Tests.{lt-leb, le-leb, leb-true, leb-false}
use Rattle.layout.specs.Word.{put}
use Rattle.layout.specs.Layout.{pos, wid, fld, fld_set, dec}
use Rattle.layout.proofs.WordLaws.{get_lt, one_shifted, get_shifts, put_shifts}
use Rattle.layout.proofs.LayoutLaws.{fld_same, fld_other, fld_set_lt, inside, same_fields}
use Rattle.table.specs.Pair.{layout, link_f, lock_f, word_at, word_of, set_word, set_bits, key_of, set_key, field_of, set_field}
use Rattle.table.specs.declared.Which.{Which}
use Rattle.table.specs.declared.Which.TheVariants.{State, Edge}

-- the slot is one of the table
abbrev pub Slot : List ℕ → ℕ → Type 0
Slot ws i = word_at i 1 < length ws

-- the value fits field f
abbrev pub Holds : ℕ → ℕ → Type 0
Holds f v = v < 2 ^ wid layout f

-- Words: the one that is stored, another word, another slot, beyond the table

pub word_same : (ws : List ℕ) (i k v : ℕ) → word_at i k < length ws → word_of (set_word ws i k v) i k ≡ v
unfolding word_of set_word
word_same ws i k v s = get_or-set_same ws (word_at i k) v 0 s

pub word_other : (ws : List ℕ) (i j k l v : ℕ) → word_at j l ≢ word_at i k → word_of (set_word ws i k v) j l ≡ word_of ws j l
unfolding word_of set_word
word_other ws i j k l v d = get_or-set_other ws (word_at i k) (word_at j l) v 0 d

pub word_length : (ws : List ℕ) (i k v : ℕ) → length (set_word ws i k v) ≡ length ws
unfolding set_word
word_length ws i k v = length-set ws (word_at i k) v

pub word_beyond : (ws : List ℕ) (i k : ℕ) → length ws ≤ word_at i k → 0 ≡ word_of ws i k
unfolding word_of
word_beyond ws i k h = sym (get_or-eq_default ws 0 h)

pub set_word_beyond : (ws : List ℕ) (i k v : ℕ) → length ws ≤ word_at i k → ws ≡ set_word ws i k v
unfolding set_word
set_word_beyond ws i k v h = sym (set_out ws (word_at i k) v h)

pub word_again : (ws : List ℕ) (i k v v' : ℕ) → set_word (set_word ws i k v) i k v' ≡ set_word ws i k v'
unfolding set_word
word_again ws i k v v' = set-set ws (word_at i k) v v'

-- writing what stands there changes nothing
pub word_itself : (ws : List ℕ) (i k : ℕ) → set_word ws i k (word_of ws i k) ≡ ws
unfolding set_word word_of
word_itself ws i k = set-get_or ws (word_at i k) 0

-- Fields: a store that is made, or not

pub set_field_fits : (f : ℕ) (ws : List ℕ) (i v : ℕ) → Holds f v
    → set_field f ws i v ≡ set_word ws i 1 (fld_set layout f (word_of ws i 1) v)
unfolding set_field
set_field_fits f ws i v h = rw (lt-leb (2 ^ wid layout f) v h)

pub set_field_big : (f : ℕ) (ws : List ℕ) (i v : ℕ) → 2 ^ wid layout f ≤ v → set_field f ws i v ≡ ws
unfolding set_field
set_field_big f ws i v h = rw (le-leb (2 ^ wid layout f) v h)

-- to prove something of a table after a store: of the store that is made, and of none
pub stored : (P : List ℕ → Type 0) (f : ℕ) (ws : List ℕ) (i v : ℕ)
    → (Holds f v → P (set_word ws i 1 (fld_set layout f (word_of ws i 1) v))) → P ws → P (set_field f ws i v)
stored P f ws i v a b = go (leb (2 ^ wid layout f) v) refl
  where
    go : (t : Bool) → leb (2 ^ wid layout f) v ≡ t → P (set_field f ws i v)
    go true e = rw (set_field_big f ws i v (leb-true _ _ e)) b
    go false e = let h = leb-false _ _ e in rw (set_field_fits f ws i v h) (a h)

-- the same field of the same slot
pub field_same : (f : ℕ) (ws : List ℕ) (i v : ℕ) → Slot ws i → Holds f v → field_of f (set_field f ws i v) i ≡ v
unfolding field_of
field_same f ws i v s h =
    rw (set_field_fits f ws i v h, word_same ws i 1 (fld_set layout f (word_of ws i 1) v) s) (fld_same layout f (word_of ws i 1) v h)

-- every field of another slot
pub field_slot : (f g : ℕ) (ws : List ℕ) (i j v : ℕ) → j ≢ i → field_of f (set_field g ws i v) j ≡ field_of f ws j
unfolding field_of
field_slot f g ws i j v d =
    stored (λ (x : List ℕ). field_of f x j ≡ field_of f ws j) g ws i v
    (λ h. ap (fld layout f) (word_other ws i j 1 1 (fld_set layout g (word_of ws i 1) v) (omega arith))) refl

-- another field, of every slot
pub field_field : (f g : ℕ) (ws : List ℕ) (i j v : ℕ) → f ≢ g → field_of f (set_field g ws i v) j ≡ field_of f ws j
unfolding field_of
field_field f g ws i j v d =
    stored (λ (x : List ℕ). field_of f x j ≡ field_of f ws j) g ws i v (λ h. go h (ℕ_discrete j i) (dec_lt (word_at i 1) (length ws))) refl
  where
    m : ℕ
    m = fld_set layout g (word_of ws i 1) v

    go : Holds g v → Dec (j ≡ i) → Dec (Slot ws i) → field_of f (set_word ws i 1 m) j ≡ field_of f ws j
    go h (no e) s = ap (fld layout f) (word_other ws i j 1 1 m (omega arith))
    go h (yes e) (yes s) = rw (e, word_same ws i 1 m s) (fld_other layout f g (word_of ws i 1) v d h)
    go h (yes e) (no s) = rw (← (set_word_beyond ws i 1 m (omega arith)))

-- keys
pub field_key : (f : ℕ) (ws : List ℕ) (i j v : ℕ) → key_of (set_field f ws i v) j ≡ key_of ws j
field_key f ws i j v =
    stored (λ (x : List ℕ). key_of x j ≡ key_of ws j) f ws i v
    (λ h. word_other ws i j 1 0 (fld_set layout f (word_of ws i 1) v) (omega arith)) refl

pub key_same : (ws : List ℕ) (i k : ℕ) → Slot ws i → key_of (set_key ws i k) i ≡ k
key_same ws i k s = word_same ws i 0 k (omega arith)

pub key_slot : (ws : List ℕ) (i j k : ℕ) → j ≢ i → key_of (set_key ws i k) j ≡ key_of ws j
key_slot ws i j k d = word_other ws i j 0 0 k (omega arith)

pub key_field : (f : ℕ) (ws : List ℕ) (i j k : ℕ) → field_of f (set_key ws i k) j ≡ field_of f ws j
unfolding field_of
key_field f ws i j k = ap (fld layout f) (word_other ws i j 0 1 k (omega arith))

-- lengths
pub field_length : (f : ℕ) (ws : List ℕ) (i v : ℕ) → length (set_field f ws i v) ≡ length ws
field_length f ws i v =
    stored (λ (x : List ℕ). length x ≡ length ws) f ws i v (λ h. word_length ws i 1 (fld_set layout f (word_of ws i 1) v)) refl

pub key_length : (ws : List ℕ) (i k : ℕ) → length (set_key ws i k) ≡ length ws
key_length ws i k = word_length ws i 0 k

-- Sizes

-- a field is below its size
pub field_lt : (f : ℕ) (ws : List ℕ) (i : ℕ) → field_of f ws i < 2 ^ wid layout f
unfolding field_of
field_lt f ws i = get_lt (pos layout f) (wid layout f) (word_of ws i 1)

pub lock_lt : (which : Which) (ws : List ℕ) (i : ℕ) → field_of (lock_f which) ws i < 64
lock_lt State ws i = field_lt 3 ws i
lock_lt (Edge true) ws i = field_lt 4 ws i
lock_lt (Edge false) ws i = field_lt 5 ws i

-- the word of fields stays below 2 ^ 64
pub word_lt : (f : ℕ) (ws : List ℕ) (i j v : ℕ) → word_of ws i 1 < 2 ^ 64 → word_of ws j 1 < 2 ^ 64 → word_of (set_field f ws i v) j 1 < 2 ^ 64
word_lt f ws i j v hi hj =
    stored (λ (x : List ℕ). word_of x j 1 < 2 ^ 64) f ws i v (λ h. go h (ℕ_discrete j i) (dec_lt (word_at i 1) (length ws))) hj
  where
    m : ℕ
    m = fld_set layout f (word_of ws i 1) v

    go : Holds f v → Dec (j ≡ i) → Dec (Slot ws i) → word_of (set_word ws i 1 m) j 1 < 2 ^ 64
    go h (no e) s = rw (word_other ws i j 1 1 m (omega arith)) hj
    go h (yes e) (yes s) = rw (e, word_same ws i 1 m s) (fld_set_lt layout f (word_of ws i 1) v hi h)
    go h (yes e) (no s) = rw (← (set_word_beyond ws i 1 m (omega arith))) hj

-- two words below 2 ^ 64 with the same fields are one word
pub same_dec : (ws : List ℕ) (m n : ℕ) → ((f : ℕ) → f < length ws → fld ws f m ≡ fld ws f n) → dec ws m ≡ dec ws n
same_dec [] m n e = refl
same_dec (w ∷ ws) m n e = ap₂ ◌∷◌ (e 0 (omega arith)) (same_dec ws m n (λ f h. e (suc f) (omega arith)))

pub same_word : (ws vs : List ℕ) (i j : ℕ) → word_of ws i 1 < 2 ^ 64 → word_of vs j 1 < 2 ^ 64
    → ((f : ℕ) → f < length layout → field_of f ws i ≡ field_of f vs j) → word_of ws i 1 ≡ word_of vs j 1
unfolding field_of
same_word ws vs i j a b e =
    same_fields layout (word_of ws i 1) (word_of vs j 1) a b (same_dec layout (word_of ws i 1) (word_of vs j 1) e)

-- As code has the layout: a field by its place and width

abbrev pub link_wide : ℕ
link_wide = wid layout (link_f true)

abbrev pub lock_wide : ℕ
lock_wide = wid layout (lock_f State)

pub link_wide_lem : (side : Bool) → link_wide ≡ wid layout (link_f side)
link_wide_lem true = refl
link_wide_lem false = refl

pub lock_wide_lem : (which : Which) → lock_wide ≡ wid layout (lock_f which)
lock_wide_lem State = refl
lock_wide_lem (Edge true) = refl
lock_wide_lem (Edge false) = refl

-- it is within a shift's reach
pub reach : (f p w : ℕ) → p ≡ pos layout f → w ≡ wid layout f → 0 < w → w < 64 → (p < 64) × (w < 64) × (p + w ≤ 64)
reach f p w e d l h = omega (arith, inside layout f)

pub store_at : (f p w : ℕ) (ws : List ℕ) (i v : ℕ) → p ≡ pos layout f → w ≡ wid layout f → set_bits ws i p w v ≡ set_field f ws i v
unfolding set_bits set_field
store_at f p w ws i v e d = rw (e, d)

-- as shifts make it: the size of a field of w bits, what is taken off, and the new word
pub size_of : (w : ℕ) → w < 64 → 1 * 2 ^ w % 2 ^ 64 ≡ 2 ^ w
size_of w h = one_shifted 64 w h

pub code_le : (p w x : ℕ) → w < 64 → p + w ≤ 64 → x / 2 ^ p % (1 * 2 ^ w % 2 ^ 64) * 2 ^ p % 2 ^ 64 ≤ x
code_le p w x h k = get_shifts 64 p w x (x / 2 ^ p % (1 * 2 ^ w % 2 ^ 64)) k (rw (size_of w h))

pub code_put : (p w x v : ℕ) → w < 64 → p + w ≤ 64 → v < 2 ^ w
    → x - x / 2 ^ p % (1 * 2 ^ w % 2 ^ 64) * 2 ^ p % 2 ^ 64 + v * 2 ^ p % 2 ^ 64 ≡ put p w x v
code_put p w x v h k l = put_shifts 64 p w x v (x / 2 ^ p % (1 * 2 ^ w % 2 ^ 64)) k l (rw (size_of w h))

pub bits_fit : (ws : List ℕ) (i p w v : ℕ) → v < 2 ^ w → set_bits ws i p w v ≡ set_word ws i 1 (put p w (word_of ws i 1) v)
unfolding set_bits
bits_fit ws i p w v h = rw (lt-leb (2 ^ w) v h)

pub bits_big : (ws : List ℕ) (i p w v : ℕ) → 2 ^ w ≤ v → ws ≡ set_bits ws i p w v
unfolding set_bits
bits_big ws i p w v h = rw (le-leb (2 ^ w) v h)
