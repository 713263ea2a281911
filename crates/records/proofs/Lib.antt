pub mod Canonical
pub mod OwnWords
pub mod Walks
pub mod OneOutcome
pub mod Counts
pub mod TakenApart
pub mod Idle
pub mod Names
