pub mod NoteLaws
pub mod NumeralText
pub mod Places
pub mod Sixteen
