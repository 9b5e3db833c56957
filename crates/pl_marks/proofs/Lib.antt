pub mod Authors
pub mod Counting
pub mod Numbering
