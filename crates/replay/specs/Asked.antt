-- What a line asks for is there.
use Rattle.std.specs.Prelude.{ℕ, ◌<◌, ◌≤◌, ◌/◌, ⊤}
use Rattle.replay.specs.declared.asked.Command.{Command}
use Rattle.replay.specs.declared.asked.Command.TheVariants.{Table, OnTable, OnRecord}
use Rattle.replay.specs.declared.asked.Act.{Act}
use Rattle.replay.specs.declared.asked.Act.TheVariants.{Fresh, Poke, Slot, Key, Put, Pair, Check, List, First, Sweep}
use Rattle.replay.specs.declared.asked.TheConstants.{ROOM}
use Rattle.replay.specs.declared.desk.TheConstants.{RECORDS}

-- a place or a slot of a table of so many words, and a list that the buffer has room for
abbrev pub IsOfTable : ℕ → Act → Type 0
IsOfTable size Fresh = ⊤
IsOfTable size (Poke place word) = place < size
IsOfTable size (Slot slot) = slot < size / 2
IsOfTable size (Key slot key) = slot < size / 2
IsOfTable size (Put slot fields) = slot < size / 2
IsOfTable size (Pair slot) = slot < size / 2
IsOfTable size Check = ⊤
IsOfTable size (List low high room) = room ≤ ROOM
IsOfTable size (First from) = ⊤
IsOfTable size Sweep = ⊤

-- what the table has, and one of the records
abbrev pub InRange : ℕ → Command → Type 0
InRange size (Table n) = ⊤
InRange size (OnTable act) = IsOfTable size act
InRange size (OnRecord r deed) = r < RECORDS
