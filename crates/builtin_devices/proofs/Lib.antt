pub mod AllFields
pub mod Places
pub mod Digits
pub mod Addressing
pub mod FirstDevices
pub mod Gathered
