pub mod Closed
pub mod NewDesks
pub mod NewDeskView
