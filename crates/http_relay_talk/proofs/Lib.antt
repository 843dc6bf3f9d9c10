pub mod Before
pub mod Copies
pub mod Lessons
pub mod Passing
pub mod Pieces
pub mod Shares
pub mod Visits
