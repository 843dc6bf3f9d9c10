pub mod Calls
pub mod Closing
pub mod Desks
pub mod Replies
