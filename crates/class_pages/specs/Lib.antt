pub mod Boxes
pub mod Choosing
pub mod Drafts
pub mod Edited
pub mod Fitting
pub mod Pages
