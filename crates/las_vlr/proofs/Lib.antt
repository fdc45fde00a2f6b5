pub mod Extended
pub mod Failing
pub mod Walked
