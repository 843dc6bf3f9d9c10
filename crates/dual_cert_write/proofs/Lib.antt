pub mod Joins
pub mod Lines
pub mod Sends
pub mod Sets
