pub mod Probing
pub mod Rounds
pub mod Sooner
