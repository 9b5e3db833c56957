pub mod Faults
pub mod Fakes
pub mod Lines
pub mod Reader
pub mod Reading
pub mod Sparing
pub mod Writes
