pub mod Flips
pub mod Loops
