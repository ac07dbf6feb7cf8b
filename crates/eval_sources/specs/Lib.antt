pub mod Sources
pub mod Reported
pub mod Touched
pub mod Inner
