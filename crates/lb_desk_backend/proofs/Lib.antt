pub mod Alike
pub mod OneBackend
pub mod Placed
