pub mod Changed
pub mod Counted
pub mod LastUses
pub mod Logged
pub mod Placed
pub mod Reaching
pub mod Replied
pub mod Usable
