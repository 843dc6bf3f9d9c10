pub mod Doors
pub mod Handed
