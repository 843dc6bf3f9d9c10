pub mod Accepted
pub mod Changes
pub mod Counting
pub mod Logs
pub mod Reached
pub mod Replies
pub mod Uses
