pub mod Telling
pub mod Lookups
pub mod Nearby
pub mod Owning
pub mod Storing
pub mod Mending
pub mod Settling
pub mod Keeping
