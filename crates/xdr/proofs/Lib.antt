pub mod Laws
pub mod Settles
pub mod Lossless
pub mod Contracts
