pub mod LeastArcs
pub mod Searches
pub mod Pushes
pub mod Repairs
