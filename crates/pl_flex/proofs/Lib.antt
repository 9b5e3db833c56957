pub mod Members
pub mod Extents
pub mod Shapes
pub mod Ceilings
pub mod Timed
