pub mod NoBreak
pub mod LeastRanks
pub mod EachImport
