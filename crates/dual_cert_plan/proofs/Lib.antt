pub mod OwnSheet
pub mod Walk
