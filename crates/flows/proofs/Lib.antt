pub mod Ahead
pub mod Placing
pub mod Scanning
