pub mod Blanks
pub mod Fillings
pub mod Plannings
