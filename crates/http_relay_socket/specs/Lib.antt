pub mod Drains
pub mod Limits
