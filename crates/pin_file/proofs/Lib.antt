mod Escapes
mod Words
mod Lines
pub mod Pushes
mod ReadPins
mod Adding
mod Bodies
mod Files
