pub mod Laws
pub mod Passing
pub mod Protocols
pub mod Records
pub mod Scan
