pub mod AllFaults
pub mod Checking
pub mod CheckingAll
pub mod Verified
