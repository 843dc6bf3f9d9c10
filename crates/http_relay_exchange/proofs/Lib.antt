pub mod Joined
pub mod Openings
pub mod Stages
