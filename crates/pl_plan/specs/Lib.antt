pub use Rattle.pl_model.specs.Checked
pub use Rattle.pl_model.specs.Values as ModelValues
pub mod Activities
pub mod State
pub mod Places
pub mod Index
pub mod Trees
pub mod Serving
pub mod Indexed
pub mod Counts
pub mod Latest
pub mod Fitting
pub mod Values
pub mod Firm
pub mod Known
pub mod Laws
pub mod Moves
pub mod LookUps
