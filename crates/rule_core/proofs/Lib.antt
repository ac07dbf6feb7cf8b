pub mod Walking
pub mod Sorting
pub mod Taking
mod Drafting
pub mod Bounds
mod Capping
mod Adding
mod Filing
mod Passing
mod Counting
mod Noting
pub mod TokensCounted
mod Cuts
