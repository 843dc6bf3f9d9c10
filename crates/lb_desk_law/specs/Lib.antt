pub mod Examples
pub mod Headline
pub mod LawfulViews
pub mod Parts
pub mod SetPins
pub mod Worlds
