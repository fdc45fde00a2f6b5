pub mod Survey
pub mod Layout
pub mod Classes
pub mod Camera
pub mod Picture
pub mod Frame
