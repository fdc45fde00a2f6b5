pub mod Session
pub mod Worlds
pub mod Giving
pub mod Talk
pub mod Hearing
pub mod Listening
pub mod Shown
pub mod Passing
