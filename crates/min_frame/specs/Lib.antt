pub mod Claimed
pub mod Empty
pub mod Least
pub mod Meaning
pub mod Rule
