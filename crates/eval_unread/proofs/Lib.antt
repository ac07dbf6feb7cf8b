pub mod AllNoted
pub mod More
pub mod Unasked
pub mod Among
pub mod Leaving
pub mod NeedsNumber
pub mod FirstLooking
