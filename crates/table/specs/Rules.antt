-- Document 01's rules: what a lock may be, the bit rules of a pair, the root's rule, rule 1; and the fresh table.
-- Assumes nothing.
use Rattle.std.specs.Prelude.{Bool, true, false, cond, not, ◌&&◌, ◌||◌, List, ℕ, ◌+◌, ◌*◌, ◌%◌, leb, ltb, eqb, length, replicate}
use Rattle.layout.specs.Layout.{fld}
use Rattle.refusal.specs.Said.{Said, gives, refuses}
use Rattle.table.specs.Pair.{layout, most_slots, free, as_data, slots_of, field_of, state_f, link_f, lock_f, zeros_f, busy_f, key_of, state_of, link_of, lock_of, busy_of, set_key, set_state}
use Rattle.table.specs.declared.Which.TheVariants.{State, Edge}

-- a lock is 0 when free, 1 when written, else twice its readers, at most 32
unfoldable pub lock_fine : ℕ → Bool
lock_fine x = eqb x 1 || (eqb (x % 2) 0 && leb x 32)

-- no link beyond the table, each lock fine, all other bits zero; the busy count is the root's alone
unfoldable pub bits_fine : List ℕ → ℕ → Bool
bits_fine ws i =
    ltb (link_of ws i true) (slots_of ws) && ltb (link_of ws i false) (slots_of ws)
    && lock_fine (lock_of ws i State) && lock_fine (lock_of ws i (Edge true)) && lock_fine (lock_of ws i (Edge false))
    && (eqb i 0 || eqb (field_of busy_f ws i) 0) && eqb (field_of zeros_f ws i) 0

-- the same of one word of fields x, in a table of n slots
unfoldable pub word_fine : ℕ → ℕ → Bool → Bool
word_fine x n root =
    ltb (fld layout (link_f true) x) n && ltb (fld layout (link_f false) x) n
    && lock_fine (fld layout (lock_f State) x) && lock_fine (fld layout (lock_f (Edge true)) x) && lock_fine (fld layout (lock_f (Edge false)) x)
    && (root || eqb (fld layout busy_f x) 0) && eqb (fld layout zeros_f x) 0

-- its three locks
abbrev pub locks_fine : ℕ → Bool
locks_fine x = lock_fine (fld layout (lock_f State) x) && lock_fine (fld layout (lock_f (Edge true)) x) && lock_fine (fld layout (lock_f (Edge false)) x)

-- a pair that a step may read, store to or unlock: not free, and the bit rules
unfoldable pub pair_fine : List ℕ → ℕ → Bool
pair_fine ws i = not (eqb (state_of ws i) free) && bits_fine ws i

-- the root's key
abbrev pub all_ones : ℕ
all_ones = 18446744073709551615

-- the root: an all-ones key, state data, no right child, the bit rules, at most 16 busy
unfoldable pub root_fine : List ℕ → Bool
root_fine ws =
    eqb (key_of ws 0) all_ones && eqb (state_of ws 0) as_data && eqb (link_of ws 0 false) 0
    && bits_fine ws 0 && leb (busy_of ws) 16

-- the same of its two words
unfoldable pub root_words : ℕ → ℕ → ℕ → Bool
root_words key x n =
    eqb key all_ones && eqb (fld layout state_f x) as_data && eqb (fld layout (link_f false) x) 0
    && word_fine x n true && leb (fld layout busy_f x) 16

-- a busy count of b or of up to 15 more
unfoldable pub busy_from : ℕ → ℕ → Bool
busy_from b n = leb b n && leb n (b + 15)

-- the fewest and the most words of a table: 2048, two for each slot that a link can name
abbrev pub fewest_words : ℕ
fewest_words = 4

abbrev pub most_words : ℕ
most_words = 2 * most_slots

-- neither odd, nor under the fewest, nor over the most
unfoldable pub size_fine : ℕ → Bool
size_fine n = eqb (n % 2) 0 && leb fewest_words n && leb n most_words

-- no refusal 1
unfoldable pub table_fine : List ℕ → Bool
table_fine ws = size_fine (length ws) && root_fine ws

-- a fresh table has this root with the rest zero, whatever it held; or 1, and nothing changes
unfoldable pub fresh_says : List ℕ → Said (Unit {0})
fresh_says ws = cond (size_fine (length ws)) (gives tt) (refuses 1)

unfoldable pub fresh_words : List ℕ → List ℕ
fresh_words ws = cond (size_fine (length ws)) (set_state (set_key (replicate (length ws) 0) 0 all_ones) 0 as_data) ws
