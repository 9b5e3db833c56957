pub use Rattle.pl_stn.specs.Nets
pub mod Times
pub mod Index
pub mod Settling
pub mod Mirror
pub mod Bounded
pub mod Walks
