pub mod Formats
pub mod Zeros
