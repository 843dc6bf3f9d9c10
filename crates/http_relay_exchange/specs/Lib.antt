pub mod Exchanges
pub mod Headings
pub mod Requests
