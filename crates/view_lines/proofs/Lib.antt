pub mod CommandOf
pub mod HoldingOf
pub mod Rooms
