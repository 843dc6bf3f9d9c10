pub mod Addresses
pub mod Faults
pub mod Numbers
pub mod Ranges
pub mod Rest
pub mod Reading
