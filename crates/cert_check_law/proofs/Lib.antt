pub mod Agreeing
pub mod Duality
pub mod Room
pub mod Sums
pub mod Views
pub mod Weights
