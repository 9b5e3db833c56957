pub mod Changes
pub mod Replaced
pub mod Putting
pub mod Renewed
