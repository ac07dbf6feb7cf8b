pub mod Answered
pub mod Reported
pub mod Checked
pub mod Sessions
