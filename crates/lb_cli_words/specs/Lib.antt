pub mod Clap
pub mod ExitStatus
pub mod Given
pub mod RunWords
pub mod Table
pub mod Words
