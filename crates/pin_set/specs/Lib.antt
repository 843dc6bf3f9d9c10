pub mod Assignments
pub mod Costs
pub mod Names
pub mod Pins
pub mod Rows
pub mod Views
