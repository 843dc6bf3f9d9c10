pub mod LastPlans
pub mod Pieces
pub mod PlainKeys
pub mod Wanted
pub mod Wants
pub mod Wrote
