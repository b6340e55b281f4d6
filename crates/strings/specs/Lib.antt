pub mod Fits
pub mod Skips
