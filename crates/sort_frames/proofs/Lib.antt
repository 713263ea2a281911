pub mod Short
pub mod Prints
