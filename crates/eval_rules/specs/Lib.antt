pub mod Idle
pub mod Inner
pub mod Jumps
pub mod Outcomes
pub mod Watched
pub mod Moments
pub mod Laws
pub mod Steps
