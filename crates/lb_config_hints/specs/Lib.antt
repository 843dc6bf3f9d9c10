pub mod Hints
pub mod Near
