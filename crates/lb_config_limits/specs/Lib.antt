pub mod DeclaredView
pub mod Kinds
pub mod Limits
