pub mod KernelModes
pub mod Given
pub mod Others
pub mod Unread
pub mod Inner
pub mod Laws
