pub mod Tallies
pub mod CrewRuns
pub mod Members
pub mod Closing
