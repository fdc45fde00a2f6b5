pub mod Corners
pub mod Counts
pub mod Lines
