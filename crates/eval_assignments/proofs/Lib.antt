pub mod Cutting
pub mod Digits
pub mod Joining
pub mod PlainLinks
pub mod Staying
pub mod Writing
