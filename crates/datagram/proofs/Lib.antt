pub mod OneDatagram
pub mod Running
pub mod Deciding
pub mod Lossless
pub mod Contracts
pub mod Heads
