pub mod Recent
pub mod Sound
