pub mod Balances
pub mod Freest
pub mod Lists
pub mod Members
pub mod Permitted
pub mod Ranges
pub mod Rounds
pub mod Sights
