pub mod Edit
pub mod EditLine
pub mod Reading
