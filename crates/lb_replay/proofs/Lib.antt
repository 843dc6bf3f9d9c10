pub mod Given
pub mod Going
pub mod LastPlans
pub mod Outcomes
pub mod PiecesRead
pub mod Written
