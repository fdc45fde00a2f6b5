pub mod Pieces
pub mod Drawing
pub mod Room
pub mod Laid
