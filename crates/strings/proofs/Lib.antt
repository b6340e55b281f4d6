pub mod Bytes
pub mod Whole
pub mod Highs
pub mod Skips
pub mod Contracts
