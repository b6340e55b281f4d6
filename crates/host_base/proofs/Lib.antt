pub mod Contracts
