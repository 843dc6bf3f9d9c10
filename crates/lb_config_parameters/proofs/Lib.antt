pub mod ReadRanges
