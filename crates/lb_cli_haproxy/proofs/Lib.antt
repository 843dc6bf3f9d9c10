pub mod Made
mod Moving
mod OnServers
mod SheetFarms
pub mod SheetMade
