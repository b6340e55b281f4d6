pub mod Placing
pub mod Loops
