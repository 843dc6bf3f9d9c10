pub mod Picked
pub mod Replaced
