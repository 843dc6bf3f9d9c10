pub mod Asks
pub mod Queues
