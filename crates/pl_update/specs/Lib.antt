pub use Rattle.pl_semantics.specs.PlanStates
pub use Rattle.pl_semantics.specs.Whole
pub use Rattle.pl_semantics.specs.Moves
pub use Rattle.pl_model.specs.Checked
pub use Rattle.pl_facts.specs.Goals
pub use Rattle.pl_plan.specs.Activities
pub use Rattle.pl_semantics.specs.Demands
pub use Rattle.pl_semantics.specs.Timelines as SemanticsTimelines
pub use Rattle.pl_conflict.specs.Order
pub use Rattle.pl_semantics.specs.Parts
pub use Rattle.pl_detect.specs.Based
pub use Rattle.pl_semantics.specs.Links as SemanticsLinks
pub use Rattle.pl_links.specs.Kept
pub use Rattle.pl_semantics.specs.Conflicts
pub use Rattle.pl_semantics.specs.Grants
pub mod Changes
pub mod Timelines
pub mod Links
pub mod GoalsAndActivities
pub mod Evaluations
