pub mod KnownBytes
pub mod Rooms
