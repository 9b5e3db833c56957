pub mod Keeping
pub mod Reading
pub mod Places
pub mod Still
pub mod Moving
pub mod Alike
pub mod Coming
