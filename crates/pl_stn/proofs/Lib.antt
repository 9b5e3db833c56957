pub mod Walks
pub mod Raising
pub mod FirstCauses
pub mod Exclusion
pub mod Passes
pub mod Additions
