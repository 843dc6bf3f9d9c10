pub mod Answering
pub mod Changing
pub mod Keyed
pub mod Placing
pub mod Printings
pub mod Reading
pub mod Showing
pub mod Staying
pub mod Telling
mod Trimming
