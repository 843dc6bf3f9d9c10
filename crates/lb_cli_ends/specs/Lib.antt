pub mod Hindered
pub mod Statuses
