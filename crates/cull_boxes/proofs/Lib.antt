pub mod Corners
pub mod Keeping
pub mod Laws
