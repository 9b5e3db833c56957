pub mod FirstLine
pub mod Grown
pub mod LineLaws
pub mod Shown
