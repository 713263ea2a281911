pub mod Forms
pub mod Parts
pub mod Reading
pub mod SubSecond
pub mod Writing
