pub mod Status
pub mod Texts
pub mod Trial
pub mod Run
pub mod Calls
pub mod Steps
