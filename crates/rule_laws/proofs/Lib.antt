pub mod First
pub mod HwdbListing
pub mod Accepting
pub mod Saying
pub mod Answering
pub mod Reporting
pub mod Cuts
pub mod Indexing
pub mod Typing
pub mod HwdbSpelling
pub mod Rooting
pub mod Lists
pub mod Reading1
pub mod Listing1
pub mod InBytes
pub mod Holding
pub mod Row1
pub mod LineWays
pub mod Winning
pub mod Caseless
pub mod Pieces
pub mod Shifting
pub mod Lawful
pub mod Belonging
pub mod Ranges
pub mod Places
pub mod Cases
pub mod Classes
pub mod Spelling
pub mod Enclosed
pub mod Bars
pub mod Splitting
pub mod Nuls
pub mod Placement
pub mod RunLaws
mod Labelled
mod Reached
mod Placed
pub mod Law
pub mod TemplatesAgain
mod Conditions
mod Operators
mod Again
mod Counting
mod GapPlaces
mod Gaps
mod Landed
mod Numbering
mod Listing
mod Ordering
mod Outcomes
mod Understanding
mod Landing
mod Endings
mod FirstPlaces
mod OctalTexts
mod Known
mod WrittenLemmas
