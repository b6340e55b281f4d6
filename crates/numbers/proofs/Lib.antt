pub mod Contracts
pub mod Lossless
pub mod Masks
