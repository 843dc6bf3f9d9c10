pub mod Handed
pub mod Leftovers
pub mod Moves
pub mod Passes
