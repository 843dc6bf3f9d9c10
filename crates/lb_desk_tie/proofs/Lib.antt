pub mod Sums
pub mod Moves
pub mod Apart
pub mod Settling
