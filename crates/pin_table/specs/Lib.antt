pub mod Counted
pub mod Kinds
pub mod Pins
pub mod Placed
pub mod Placing
pub mod Tables
