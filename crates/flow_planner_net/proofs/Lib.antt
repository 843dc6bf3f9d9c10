pub mod Sums
pub mod Numbers
pub mod Tables
pub mod Moves
pub mod Loads
pub mod RowSums
pub mod Slackness
