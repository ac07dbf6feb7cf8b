pub mod Catalogue
pub mod Ignored
pub mod Sections
