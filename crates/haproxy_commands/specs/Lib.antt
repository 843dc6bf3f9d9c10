pub mod Reading
pub mod Writing
pub mod Names
pub mod Tables
pub mod Laws
