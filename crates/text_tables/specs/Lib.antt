pub mod Surplus
pub mod Tallies
pub mod Heads
pub mod NameFlags
pub mod Pairs
pub mod Sorted
pub mod Texts
