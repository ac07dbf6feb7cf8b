pub mod Written
pub mod Ignoring
pub mod Misread
