mod News
mod Tales
pub mod Later
mod Replying
mod Calls
mod Lines
mod Heard
mod Taking
mod Processing
mod Examples
mod Answered
mod Parts
mod Lengths
mod Shown
mod Naming
mod Counted
