pub mod Calendar
pub mod Key
pub mod Instant
