pub mod Keywords
pub mod SecondWords
pub mod Sections
pub mod SettingLines
