pub mod KeyWords
pub mod Files
pub mod Spellings
pub mod Texts
