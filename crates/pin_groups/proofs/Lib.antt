pub mod Order
pub mod Sheets
pub mod Leftovers
pub mod Tally
