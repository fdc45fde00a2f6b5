pub mod Corners
pub mod Text
