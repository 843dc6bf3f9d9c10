pub mod OneByOne
pub mod Requests
pub mod Turns
