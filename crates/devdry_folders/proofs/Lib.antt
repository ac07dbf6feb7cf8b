pub mod Counting
pub mod HandedOn
pub mod Staying
pub mod OneFile
pub mod Adding
pub mod OwnAdvice
