pub mod Reach
pub mod Sound
pub mod Walk
pub mod Judge
pub mod Answers
pub mod Places
