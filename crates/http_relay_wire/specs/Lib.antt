pub mod Faults
pub mod Wires
