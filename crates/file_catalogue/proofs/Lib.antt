pub mod Each
pub mod Found
mod Rows
pub mod Telling
mod Unknown
