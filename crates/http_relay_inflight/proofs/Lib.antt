pub mod Flights
pub mod OneByOne
