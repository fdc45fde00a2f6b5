pub mod Limits
pub mod Kept
pub mod Seen
pub mod HalfSpaces
