pub mod Rows
pub mod Summaries
pub mod Mends
pub mod Searches
pub mod RowSums
pub mod Beginnings
