pub mod Acting
pub mod Core
pub mod Expiring
pub mod PlacesPins
pub mod Parts
pub mod Requests
pub mod SetPins
