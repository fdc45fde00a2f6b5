pub mod ClassBytes
pub mod Items
pub mod Sets
