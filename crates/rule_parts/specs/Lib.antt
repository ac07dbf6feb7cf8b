pub mod Inner
pub mod Parts
pub mod Options
pub mod Values
pub mod Faults
pub mod Refusals
