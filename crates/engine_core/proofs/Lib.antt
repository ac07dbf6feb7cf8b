pub mod Running
pub mod Compared
