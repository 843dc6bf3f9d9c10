pub mod Options
pub mod OptionsView
pub mod Ranges
pub mod ServerLines
pub mod StickTables
pub mod TableViews
