pub mod Beginnings
pub mod GroupTexts
pub mod RoomTexts
pub mod SheetLaws
pub mod Totals
