pub mod Dials
pub mod Scripted
