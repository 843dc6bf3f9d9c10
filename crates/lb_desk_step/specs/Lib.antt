pub mod Acts
pub mod Desk
pub mod Parts
pub mod Planning
pub mod Worlds
