pub mod Planning
pub mod Tables
