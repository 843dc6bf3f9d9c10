pub mod KeptSteps
pub mod ReadRanges
pub mod WordSteps
