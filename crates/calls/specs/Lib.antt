pub mod Numbers
pub mod Workers
