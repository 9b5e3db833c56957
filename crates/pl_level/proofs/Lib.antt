pub mod Levels
pub mod Shifting
