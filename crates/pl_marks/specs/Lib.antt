pub mod Authors
pub mod Marks
