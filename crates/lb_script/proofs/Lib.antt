pub mod Addresses
pub mod AskedWords
pub mod WantedWords
