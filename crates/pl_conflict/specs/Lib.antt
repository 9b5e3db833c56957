pub mod Codes
pub mod Order
pub mod Sorting
