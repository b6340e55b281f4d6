pub mod Passing
pub mod There
