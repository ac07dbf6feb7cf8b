mod Beginnings
pub mod Finding
mod Parts
mod Keys
pub mod SpacedWords
pub mod Joining
pub mod Passing
pub mod Naming
pub mod Telling
