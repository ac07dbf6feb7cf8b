pub mod Cutting
pub mod Knowing
pub mod Lawful
pub mod Needed
