pub mod Actions
pub mod Sketches
pub mod Courses
pub mod Checks
pub mod Layout
pub mod Marks
