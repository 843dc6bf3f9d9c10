pub mod GroupLaws
pub mod PartSteps
pub mod Pushing
pub mod SameRules
