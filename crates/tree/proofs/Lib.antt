-- In the order to read. The theorems for a reader: `sound_exactly` (Judged), `list_rises` and `list_exactly` (Lists),
-- `first_gives` and `first_none` (Outcomes), `sweep_done` (Sweeping), `fresh_starts` (Fresh), why a call is refused
-- (Refusals), one outcome for each call (Outcomes). For the proofs above: Paths and SoundPaths.

-- as the code meets the definitions
pub mod Recursions
pub mod Rooms
pub mod Answering
-- walks, trees with bounds, counting
pub mod Paths
pub mod Pigeon
pub mod Trees
pub mod TreeTest
pub mod Listing
pub mod Heads
-- what is proved of the definitions
pub mod Judged
pub mod Counting
pub mod Lists
pub mod Outcomes
pub mod Swept
pub mod Sweeping
pub mod Refusals
pub mod Kept
pub mod SoundPaths
pub mod Fresh
-- what the functions name
pub mod Ways
