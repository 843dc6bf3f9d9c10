pub mod Blanks
pub mod Lawful
pub mod Lines
pub mod Sheets
