pub mod Bases
pub mod Goals
pub mod Places
