pub mod Lines
pub mod Plain
pub mod Runs
pub mod Setting
pub mod Nothing
pub mod Staying
