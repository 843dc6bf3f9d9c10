pub mod Accepted
pub mod Numbered
