pub mod Kept
pub mod KeptAcls
pub mod KeptRules
