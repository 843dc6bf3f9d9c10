pub mod GroupLines
pub mod Kept
pub mod Meanings
pub mod Texts
pub mod Words
