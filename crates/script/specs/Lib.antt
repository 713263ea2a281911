pub mod Answers
pub mod Fields
pub mod Inverts
pub mod Names
pub mod Records
