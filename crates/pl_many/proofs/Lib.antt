pub mod Tallying
pub mod Membering
pub mod Naming
pub mod Beginning
pub mod Acting
pub mod Crewing
pub mod Crossing
