pub mod Cuts
pub mod Joins
pub mod Numerals
pub mod Values
