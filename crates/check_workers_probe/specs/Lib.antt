pub mod Probes
pub mod Moving
