pub mod Values
pub mod Told
pub mod Listed
