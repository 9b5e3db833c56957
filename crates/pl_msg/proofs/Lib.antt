pub mod Loops
pub mod Within
pub mod Naming
