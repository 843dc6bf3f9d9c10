pub mod Copies
pub mod Lines
pub mod Returning
pub mod Saved
