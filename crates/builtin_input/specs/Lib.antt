pub mod Bitmaps
pub mod Capabilities
pub mod Groups
pub mod Input
pub mod Kinds
pub mod Signs
