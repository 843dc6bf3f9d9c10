pub mod Asking
pub mod Verify
