pub mod Shown
pub mod Scanned
pub mod Passing
pub mod Examples
