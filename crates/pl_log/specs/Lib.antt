pub mod Numbers
pub mod Packing
pub mod Unpacking
pub mod Logged
