pub mod Accepted
pub mod Best
pub mod Bounds
pub mod Decided
pub mod Loads
pub mod Means
pub mod Steps
pub mod Walks
