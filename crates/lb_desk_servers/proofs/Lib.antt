pub mod Changed
pub mod Checked
pub mod Commanded
pub mod Connected
pub mod Started
pub mod Versions
