pub mod BlankSteps
pub mod FillSteps
pub mod LeastOptions
pub mod RowSteps
pub mod ServerLists
pub mod Writing
