pub mod Nets
pub mod Causes
pub mod Verdicts
