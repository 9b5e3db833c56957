pub use Rattle.pl_model.specs.Checked
pub use Rattle.pl_plan.specs.Activities
pub use Rattle.pl_semantics.specs.Demands
pub use Rattle.pl_semantics.specs.PlanStates
pub use Rattle.pl_semantics.specs.Timelines
pub use Rattle.pl_semantics.specs.Whole
pub use Rattle.pl_semantics.specs.Activities as SemanticsActivities
pub use Rattle.pl_semantics.specs.Conflicts
pub use Rattle.pl_semantics.specs.Goals
pub use Rattle.pl_semantics.specs.Links
pub mod Bounds
pub mod Based
pub mod Fresh
pub mod Amounts
pub mod Broken
