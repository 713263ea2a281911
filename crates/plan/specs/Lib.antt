pub mod Due
pub mod First
pub mod Holds
pub mod Lifts
