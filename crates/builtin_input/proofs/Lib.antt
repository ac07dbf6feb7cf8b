pub mod KindLaws
pub mod Needs
pub mod WordLaws
