pub mod Near
pub mod Touched
pub mod Passed
pub mod Committed
