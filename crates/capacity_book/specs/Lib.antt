pub mod Book
pub mod FaultNumbers
