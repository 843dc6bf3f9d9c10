pub mod OwnAnswers
pub mod Places
pub mod Preparing
pub mod Services
pub mod Stages
