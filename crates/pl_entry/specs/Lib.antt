pub use Rattle.pl_conflict.specs.Order
pub use Rattle.pl_plan.specs.State
pub use Rattle.pl_plan.specs.Activities
pub use Rattle.pl_plan.specs.Fitting
pub mod Horizon
pub mod Due
pub mod Bounds
