pub mod Replies
pub mod Seats
