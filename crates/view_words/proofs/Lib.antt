pub mod Examples
pub mod Places
pub mod RowPlaces
pub mod Refusals
pub mod Lines
pub mod Names
pub mod RowNames
pub mod ViewPart
