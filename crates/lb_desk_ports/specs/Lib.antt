pub mod Calls
pub mod Movers
pub mod Ports
