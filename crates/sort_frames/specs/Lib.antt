pub mod Paper
pub mod Waits
