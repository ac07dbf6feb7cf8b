pub mod Computing
pub mod Checking
pub mod Speaking
