pub mod Goals
pub mod Telling
pub mod Putting
pub mod Keeping
pub mod Finding
pub mod Renewing
pub mod Measuring
