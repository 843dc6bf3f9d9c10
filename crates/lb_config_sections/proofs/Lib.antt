pub mod Gathering
pub mod LineSteps
