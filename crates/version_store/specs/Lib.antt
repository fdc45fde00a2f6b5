pub mod Histories
pub mod Store
pub mod Sharing
pub mod Underway
pub mod Versioned
