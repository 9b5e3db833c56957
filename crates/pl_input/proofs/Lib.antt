pub mod Reading
pub mod Beginning
pub mod Skipping
pub mod Stopping
pub mod Comparing
