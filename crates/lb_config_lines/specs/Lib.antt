pub mod Lines
pub mod StickLines
