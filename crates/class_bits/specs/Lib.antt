pub mod ClassSet
pub mod Kept
