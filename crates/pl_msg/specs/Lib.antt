pub mod Reads
pub mod Words
pub mod Names
pub mod Goals
pub mod Telemetry
pub mod Messages
pub mod Limits
