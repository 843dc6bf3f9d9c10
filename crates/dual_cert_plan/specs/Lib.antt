pub mod Equality
pub mod Plans
pub mod Sheets
