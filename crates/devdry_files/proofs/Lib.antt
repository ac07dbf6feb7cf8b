pub mod Whole
pub mod Adding
pub mod Examples
pub mod Ways
