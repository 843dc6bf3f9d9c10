pub mod Answers
pub mod Consoles
pub mod Desks
pub mod Lines
pub mod Outcomes
pub mod Refusals
pub mod Requests
pub mod Tasks
