pub mod HeadEnds
pub mod Reads
pub mod Sources
