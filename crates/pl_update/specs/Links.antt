pub mod Near
pub mod Owned
pub mod Mended
pub mod Telling
pub mod Placing
pub mod Passing
