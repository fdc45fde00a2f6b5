pub mod Outside
pub mod Narrow
pub mod Kept
