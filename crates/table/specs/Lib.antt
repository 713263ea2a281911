pub mod Pair
pub mod Rules
pub mod Free
