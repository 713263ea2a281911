-- A worker alone (demand 2): from a calm table to its answer. THE THEOREMS STAND IN Demand; what they say, in specs/Alone and
-- specs/Sets. In the order to read.

-- the table: the bit rules under each change, its shape under each store, and that calm is both
pub mod Tame
pub mod Changes
pub mod Ranks
pub mod Veil
pub mod Growing
pub mod Calmness
-- a plan, whatever its case: its locks are given, its stores are made, its end gives up everything
pub mod Plans
pub mod Steps
pub mod Doing
pub mod Locking
-- the walk, from the start to its end
pub mod Walking
pub mod Beginning
-- each case: what its locks expect, and what its stores come to
pub mod Told
pub mod Finishing
pub mod Inserting
pub mod InsertingNew
pub mod Cutting
pub mod Removing
pub mod RemovingOne
pub mod RemovingLeaf
-- the whole
pub mod Ending
pub mod Works
pub mod Sequence
pub mod Demand
