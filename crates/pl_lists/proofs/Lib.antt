pub mod Elements
pub mod Judging
pub mod Listing
pub mod Numbers
pub mod Orderings
pub mod Tests
