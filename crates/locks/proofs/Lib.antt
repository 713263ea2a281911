pub mod First
pub mod Takes
pub mod Quick
pub mod OneOutcome
