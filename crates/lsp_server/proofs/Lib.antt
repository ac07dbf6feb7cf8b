pub mod HeaderEnds
pub mod HeaderLemmas
pub mod InputLemmas
pub mod ItemLemmas
pub mod LawLemmas
pub mod Serving
pub mod TakingLemmas
mod Answering
mod ContentValues
mod Holding
mod Lost
mod Others
mod Reports
