pub mod Turning
pub mod Halves
pub mod OwnEntries
pub mod Progress
pub mod Crossing
