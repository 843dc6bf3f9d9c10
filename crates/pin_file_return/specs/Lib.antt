pub mod Ages
pub mod Returns
pub mod Starts
pub mod Puts
pub mod Saves
pub mod Stays
