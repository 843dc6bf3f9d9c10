pub mod LineView
pub mod Lines
pub mod Pieces
pub mod TakenPieces
pub mod Texts
pub mod WordResults
pub mod Words
