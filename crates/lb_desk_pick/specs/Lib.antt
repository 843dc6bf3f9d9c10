pub mod Sights
pub mod Walks
