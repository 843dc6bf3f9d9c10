pub mod Clients
pub mod Commands
pub mod Moves
pub mod PlanFarms
pub mod Sheets
