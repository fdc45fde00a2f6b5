pub mod Pairs
pub mod Drawing
pub mod Working
pub mod Waiting
