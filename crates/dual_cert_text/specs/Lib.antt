pub mod DraftFields
pub mod Faults
pub mod PlanTexts
pub mod RowLines
pub mod ServerLines
pub mod Spellings
pub mod Texts
pub mod Words
