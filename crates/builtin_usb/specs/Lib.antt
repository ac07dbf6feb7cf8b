pub mod Interfaces
pub mod Kinds
pub mod Subjects
pub mod Units
pub mod Identities
pub mod Needs
pub mod UsbId
pub mod Laws
