pub use Rattle.pl_semantics.proofs.Found
pub mod Bounded
pub mod Grounds
pub mod Giving
pub mod Named
pub mod Stored
pub mod BrokenConflicts
pub mod FirmOnes
