pub mod Reported
pub mod Runs
pub mod Mending
pub mod Outcomes
pub mod Comparing
