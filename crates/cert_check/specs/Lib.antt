pub mod Faults
pub mod Ranges
pub mod Verdict
