pub mod Lossless
pub mod Contracts
pub mod Readings
