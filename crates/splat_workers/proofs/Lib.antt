pub mod Blocks
pub mod Law
pub mod Least
pub mod Pieces
pub mod Plotting
