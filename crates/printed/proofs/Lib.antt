pub mod Puts
pub mod Texts
pub mod Laws
pub mod OneOutcome
pub mod Examples
