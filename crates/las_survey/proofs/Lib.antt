pub mod Beside
pub mod Kept
pub mod Laid
pub mod Refused
pub mod Walks
