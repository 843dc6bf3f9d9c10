pub mod Learnings
pub mod Lessons
pub mod Openings
pub mod Shares
pub mod Talks
pub mod Targets
pub mod Visits
