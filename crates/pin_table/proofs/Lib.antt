pub mod Apart
pub mod Found
pub mod Used
pub mod Counting
pub mod Placed
pub mod Arriving
pub mod Shared
