pub use Rattle.pl_model.specs.Checked
pub use Rattle.pl_conflict.specs.Order
pub use Rattle.pl_conflict.specs.Sorting
pub use Rattle.pl_points.specs.Sums
pub use Rattle.pl_facts.specs.Goals as AcceptedGoals
pub use Rattle.pl_plan.specs.Activities as PlanActivities
pub use Rattle.pl_plan.specs.Fitting
pub mod PlanStates
pub mod Whole
pub mod Goals
pub mod Activities
pub mod Links
pub mod Slots
pub mod Demands
pub mod Telemetry
pub mod Timelines
pub mod Owners
pub mod Conflicts
pub mod Parts
pub mod Grants
pub mod Moves
pub mod Starts
pub mod Repairs
pub mod LineRepairs
pub mod Candidates
pub mod Legal
