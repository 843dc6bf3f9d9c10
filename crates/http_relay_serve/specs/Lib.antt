pub mod Causes
pub mod Outcomes
pub mod Parts
pub mod Routes
pub mod Serves
pub mod Steps
