pub mod Characters
pub mod Counted
pub mod Fits
pub mod Holding
pub mod Known
pub mod Landing
pub mod Reaching
pub mod Starting
pub mod Moving
pub mod Cutting
pub mod Placing
pub mod Editing
pub mod Listed
pub mod Written
pub mod OnLiterals
mod NumbersBack
pub mod ReadBack
mod Faults
mod Wholes
