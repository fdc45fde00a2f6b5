pub mod LeastBox
pub mod Blocks
pub mod Grid
pub mod Cells
pub mod Order
pub mod Copying
