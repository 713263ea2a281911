pub mod Light
pub mod Witnessed
