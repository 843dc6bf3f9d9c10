pub mod Moves
pub mod SmallViews
