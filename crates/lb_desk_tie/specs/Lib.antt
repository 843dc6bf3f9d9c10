pub mod Receipts
pub mod Rule
