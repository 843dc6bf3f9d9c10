pub mod Groups
pub mod LineSteps
pub mod Quotes
