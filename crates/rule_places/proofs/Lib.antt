pub mod Firsts
pub mod Cutting
pub mod Pairs
pub mod Staying
pub mod Twice
pub mod Silence
pub mod Computing
pub mod SameRules
pub mod Respacing
pub mod Cuts
pub mod Capping
pub mod Keeping
pub mod Rising
pub mod Finding
mod Lining
pub mod Lengths
mod Reporting
mod Prefixes
mod Quotes
mod Ending
pub mod PartPlacement
pub mod Placement
pub mod Messages
pub mod Showing
pub mod Placing
pub mod Joining
pub mod FilePlacement
pub mod Opening
pub mod AbandonedFiles
