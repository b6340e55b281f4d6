pub mod Placed
pub mod Sampling
