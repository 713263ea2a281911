pub mod Bytes
pub mod Scanning
pub mod Texts
pub mod Feeding
pub mod Pieces
pub mod Forms
pub mod OneOutcome
