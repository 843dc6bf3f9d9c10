pub mod Moves
pub mod Networks
pub mod RowLists
pub mod Slackness
pub mod States
