pub mod Reporting
pub mod EnvMembers
mod JsonSourced
mod ReadBack
mod Plain
pub mod Listed
pub mod InFront
mod AsIs
mod Sourced
