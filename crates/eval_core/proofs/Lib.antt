pub mod Placing
pub mod Sketching
pub mod Heading
mod Coursing
mod Skipping
mod Ruling
mod Marking
