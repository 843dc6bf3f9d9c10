pub mod DraftFields
pub mod GroupLines
pub mod SheetSpellings
pub mod SheetTexts
