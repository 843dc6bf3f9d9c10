pub mod Answers
pub mod Events
pub mod Journals
pub mod Keys
pub mod Names
pub mod Replies
pub mod Scores
pub mod Tables
