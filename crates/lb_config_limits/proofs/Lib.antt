pub mod DeclaredNames
pub mod FirstWords
pub mod Names
