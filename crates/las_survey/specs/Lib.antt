pub mod Beside
pub mod Kept
pub mod Loading
pub mod Refusal
