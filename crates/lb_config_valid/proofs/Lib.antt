pub mod Checked
pub mod LineKinds
pub mod Lines
pub mod References
pub mod Sections
pub mod Settings
