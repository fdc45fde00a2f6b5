pub mod Homes
pub mod Meaning
pub mod Rule
pub mod Steps
