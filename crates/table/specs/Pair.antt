-- The lent words: two for each slot, a key and a word of fields, by one list of widths. All of it is total: beyond the
-- table a read is 0 and a store is nothing, and a value that does not fit its field is not stored.
-- Assumes nothing.
use Rattle.std.specs.Prelude.{Bool, true, false, cond, ◌&&◌, List, [], ◌∷◌, ℕ, ◌+◌, ◌*◌, ◌/◌, ◌^◌, leb, eqb, length, get_or, set}
use Rattle.layout.specs.Word.{put}
use Rattle.layout.specs.Layout.{wid, fld, fld_set}
use Rattle.table.specs.declared.Which.{Which}
use Rattle.table.specs.declared.Which.TheVariants.{State, Edge}

-- the second word, from the top: state 2 bits, left link 10, right link 10, state lock 6, left edge lock 6, right edge
-- lock 6, workers busy 5, zeros
abbrev pub layout : List ℕ
layout = 2 ∷ 10 ∷ 10 ∷ 6 ∷ 6 ∷ 6 ∷ 5 ∷ 19 ∷ []

-- the places of the fields in that list; a side is true for left
abbrev pub state_f : ℕ
state_f = 0

abbrev pub link_f : Bool → ℕ
link_f true = 1
link_f false = 2

abbrev pub lock_f : Which → ℕ
lock_f State = 3
lock_f (Edge true) = 4
lock_f (Edge false) = 5

abbrev pub busy_f : ℕ
busy_f = 6

abbrev pub zeros_f : ℕ
zeros_f = 7

-- a link names every slot, so there are at most as many as it can say
abbrev pub most_slots : ℕ
most_slots = 2 ^ wid layout (link_f true)

-- the states
abbrev pub free : ℕ
free = 0

abbrev pub as_data : ℕ
as_data = 1

abbrev pub routing : ℕ
routing = 2

abbrev pub deleted : ℕ
deleted = 3

-- how many slots there are, and where the words of slot i stand
abbrev pub slots_of : List ℕ → ℕ
slots_of ws = length ws / 2

abbrev pub word_at : ℕ → ℕ → ℕ
word_at i k = 2 * i + k

unfoldable pub word_of : List ℕ → ℕ → ℕ → ℕ
word_of ws i k = get_or ws (word_at i k) 0

unfoldable pub set_word : List ℕ → ℕ → ℕ → ℕ → List ℕ
set_word ws i k v = set ws (word_at i k) v

-- the first word is the key
abbrev pub key_of : List ℕ → ℕ → ℕ
key_of ws i = word_of ws i 0

abbrev pub set_key : List ℕ → ℕ → ℕ → List ℕ
set_key ws i k = set_word ws i 0 k

-- the second has the fields
unfoldable pub field_of : ℕ → List ℕ → ℕ → ℕ
field_of f ws i = fld layout f (word_of ws i 1)

unfoldable pub set_field : ℕ → List ℕ → ℕ → ℕ → List ℕ
set_field f ws i v = cond (leb (2 ^ wid layout f) v) ws (set_word ws i 1 (fld_set layout f (word_of ws i 1) v))

-- a store to a field by its place p and width w, as code makes it
unfoldable pub set_bits : List ℕ → ℕ → ℕ → ℕ → ℕ → List ℕ
set_bits ws i p w v = cond (leb (2 ^ w) v) ws (set_word ws i 1 (put p w (word_of ws i 1) v))

-- the fields by name
abbrev pub state_of : List ℕ → ℕ → ℕ
state_of ws i = field_of state_f ws i

abbrev pub link_of : List ℕ → ℕ → Bool → ℕ
link_of ws i side = field_of (link_f side) ws i

abbrev pub lock_of : List ℕ → ℕ → Which → ℕ
lock_of ws i which = field_of (lock_f which) ws i

abbrev pub busy_of : List ℕ → ℕ
busy_of ws = field_of busy_f ws 0

abbrev pub set_state : List ℕ → ℕ → ℕ → List ℕ
set_state ws i s = set_field state_f ws i s

abbrev pub set_link : List ℕ → ℕ → Bool → ℕ → List ℕ
set_link ws i side c = set_field (link_f side) ws i c

abbrev pub set_lock : List ℕ → ℕ → Which → ℕ → List ℕ
set_lock ws i which x = set_field (lock_f which) ws i x

abbrev pub set_busy : List ℕ → ℕ → List ℕ
set_busy ws n = set_field busy_f ws 0 n

-- all words of a slot are zero
unfoldable pub zero_pair : List ℕ → ℕ → Bool
zero_pair ws i = eqb (word_of ws i 0) 0 && eqb (word_of ws i 1) 0

-- both made zero
unfoldable pub zeroed : List ℕ → ℕ → List ℕ
zeroed ws i = set_word (set_word ws i 0 0) i 1 0
