pub mod Joining
pub mod PathLaws
pub mod Skipping
pub mod Reversing
