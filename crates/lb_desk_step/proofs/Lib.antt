pub mod NeverBad
pub mod Planned
pub mod Running
pub mod Stepping
