pub mod Compared
pub mod Examples
pub mod KeyLaws
pub mod LastOnes
pub mod Values
