pub mod Questions
pub mod Ready
pub mod Sizes
