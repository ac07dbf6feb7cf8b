pub mod Kinds
pub mod Paths
pub mod Needs
pub mod Builtins
