pub mod Acts
pub mod Moves
