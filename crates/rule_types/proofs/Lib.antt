mod Passing
mod Counting
pub mod Octal
pub mod Equal
