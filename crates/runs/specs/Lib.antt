pub mod Whole
pub mod Running
