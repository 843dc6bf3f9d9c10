pub mod Numbering
pub mod Opening
