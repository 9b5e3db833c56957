pub mod Adding
pub mod Bytes
pub mod Entries
pub mod Packs
