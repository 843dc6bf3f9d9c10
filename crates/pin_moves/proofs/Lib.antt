pub mod Handing
pub mod Passing
pub mod Shared
pub mod Taking
