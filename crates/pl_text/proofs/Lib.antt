pub mod Scanning
pub mod Classes
pub mod Digits
pub mod PieceLemmas
