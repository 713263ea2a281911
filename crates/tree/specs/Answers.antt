-- What check, list, first frame and sweep answer, and what they leave, for every table.
-- Assumes nothing.
use Rattle.std.specs.Prelude.{Bool, cond, ◌&&◌, List, [], ◌∷◌, ◌++◌, ℕ, zero, suc, ltb, eqb, length, drop}
use Rattle.refusal.specs.Said.{Said, gives, refuses}
use Rattle.table.specs.Pair.{as_data, deleted, slots_of, state_of, busy_of, set_word}
use Rattle.table.specs.Rules.{all_ones, table_fine}
use Rattle.tree.specs.Judge.{every, want, gone, reached_of, sound_of, unlocked, keys_at}

-- 1, then what is asked of any table that is not refused 1
abbrev pub fine_then : {A : Type 0} → List ℕ → Said A → Said A
fine_then ws a = cond (table_fine ws) a (refuses 1)

-- and 6 for one that is not sound
abbrev pub sound_then : {A : Type 0} → List ℕ → Said A → Said A
sound_then ws a = cond (sound_of ws) a (refuses 6)

-- Check: the table is sound or not
unfoldable pub check_says : List ℕ → Said Bool
check_says ws = fine_then ws (gives (sound_of ws))

-- List: keys of the set from a low to a high bound, both included, smallest first
unfoldable pub keys_of : List ℕ → ℕ → ℕ → List ℕ
keys_of ws low high = keys_at ws (reached_of ws (want as_data as_data low high))

-- how many they are; 11 for more keys than the list buffer holds
unfoldable pub fits : ℕ → List ℕ → Said ℕ
fits room ks = cond (ltb room (length ks)) (refuses 11) (gives (length ks))

unfoldable pub list_says : List ℕ → ℕ → ℕ → ℕ → Said ℕ
list_says ws low high room = fine_then ws (sound_then ws (fits room (keys_of ws low high)))

-- put into the front of the buffer, the rest of which stays; a refusal leaves it as it was
abbrev pub filled : Said ℕ → List ℕ → List ℕ → List ℕ
filled (gives n) ks o = ks ++ drop n o
filled (refuses n) ks o = o

unfoldable pub list_holds : List ℕ → ℕ → ℕ → List ℕ → List ℕ
list_holds ws low high o = filled (list_says ws low high (length o)) (keys_of ws low high) o

-- the filled front is handed back; the number is 0, or the refusal's
abbrev pub front_of : Said ℕ → List ℕ → List ℕ
front_of (gives n) ks = ks
front_of (refuses n) ks = []

unfoldable pub list_front : List ℕ → ℕ → ℕ → List ℕ → List ℕ
list_front ws low high o = front_of (list_says ws low high (length o)) (keys_of ws low high)

abbrev pub number_of : Said ℕ → ℕ
number_of (gives n) = 0
number_of (refuses n) = n

unfoldable pub list_number : List ℕ → ℕ → ℕ → List ℕ → ℕ
list_number ws low high o = number_of (list_says ws low high (length o))

-- First frame: the smallest key at or above a given number, which is the head of the list from there up; 13 for none
unfoldable pub head_of : List ℕ → Said ℕ
head_of [] = refuses 13
head_of (k ∷ ks) = gives k

unfoldable pub first_says : List ℕ → ℕ → Said ℕ
first_says ws from = fine_then ws (sound_then ws (head_of (keys_of ws from all_ones)))

-- Sweep: 8 while a worker is busy; 6 for not sound, a lock held, or a deleted slot still linked
unfoldable pub sweepable : List ℕ → Bool
sweepable ws = sound_of ws && every (unlocked ws) (slots_of ws) && eqb (length (reached_of ws gone)) 0

unfoldable pub sweep_says : List ℕ → Said (Unit {0})
sweep_says ws = fine_then ws (cond (eqb (busy_of ws) 0) (cond (sweepable ws) (gives tt) (refuses 6)) (refuses 8))

-- every deleted slot becomes free
unfoldable pub freed : List ℕ → ℕ → List ℕ
freed ws i = set_word (set_word ws i 0 0) i 1 0

unfoldable pub swept_slot : List ℕ → ℕ → List ℕ
swept_slot ws i = cond (eqb (state_of ws i) deleted) (freed ws i) ws

unfoldable pub swept : List ℕ → ℕ → List ℕ
swept ws zero = ws
swept ws (suc n) = swept_slot (swept ws n) n

abbrev pub swept_if : Said (Unit {0}) → List ℕ → List ℕ
swept_if (gives a) ws = swept ws (slots_of ws)
swept_if (refuses n) ws = ws

unfoldable pub sweep_words : List ℕ → List ℕ
sweep_words ws = swept_if (sweep_says ws) ws
