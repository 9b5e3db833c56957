pub use Rattle.pl_stn.specs.Nets
pub use Rattle.pl_times.specs.Times
pub mod FlexNets
pub mod State
pub mod Windows
pub mod Answers
