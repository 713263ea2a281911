pub mod Line
pub mod Feeding
pub mod Ends
pub mod Room
