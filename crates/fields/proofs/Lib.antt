pub mod Words
pub mod Lossless
pub mod Contracts
