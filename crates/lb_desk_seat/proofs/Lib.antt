pub mod Asking
pub mod Copying
pub mod Planning
