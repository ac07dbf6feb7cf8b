pub mod Filtering
pub mod Finding
pub mod Lacking
pub mod Seeing
pub mod Requests
pub mod Spacing
