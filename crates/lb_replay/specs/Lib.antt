pub mod Answers
pub mod Days
pub mod Farms
pub mod Pieces
pub mod Replays
pub mod Steps
