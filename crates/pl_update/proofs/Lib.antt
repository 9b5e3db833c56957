pub mod AboutChanges
pub mod AboutTimelines
pub mod AboutLinks
pub mod AboutGoalsAndActivities
pub mod AboutEvaluations
