pub mod Meaning
pub mod Passing
pub mod FileLemmas
