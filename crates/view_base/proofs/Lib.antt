pub mod Digits
pub mod Words
pub mod Listed
pub mod Decimals
pub mod Fitting
pub mod Reading
