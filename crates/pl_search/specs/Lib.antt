pub use Rattle.pl_cand.specs.Proposals
pub mod Undos
