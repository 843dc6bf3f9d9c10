pub mod Backends
pub mod Lines
pub mod Operators
pub mod Requests
pub mod SetPins
pub mod Words
