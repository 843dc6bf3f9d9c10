pub mod Changes
pub mod Checks
pub mod Farm
pub mod FaultNumbers
pub mod Server
