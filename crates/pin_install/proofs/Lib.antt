pub mod Fitting
pub mod Behind
