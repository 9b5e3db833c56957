pub mod Reaches
pub mod Levels
pub mod Induction
pub mod Naming
pub mod Crossing
pub mod Parts
