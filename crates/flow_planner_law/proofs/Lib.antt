pub mod Lawful
pub mod Grouped
pub mod RowCosts
pub mod Ordered
pub mod Prices
pub mod Accepting
