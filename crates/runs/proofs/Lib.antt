-- a whole work: on a calm table it ends with its answer
pub mod Whole
-- the loops of the code, and what follows a start
pub mod ByValue
pub mod InWords
pub mod OneOutcome
