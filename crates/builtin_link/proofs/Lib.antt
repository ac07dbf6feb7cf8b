pub mod NewNames
pub mod Needs
pub mod Ranks
