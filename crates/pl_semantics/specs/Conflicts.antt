-- All that is wrong with a plan.
use Rattle.std.specs.Prelude.{List, ◌++◌}
use Rattle.pl_conflict.specs.declared.conflict.Conflict.{Conflict}
use Rattle.pl_conflict.specs.Sorting.{sorted}
use Rattle.pl_semantics.specs.declared.plan_state.PlanState.{PlanState}
use Rattle.pl_semantics.specs.Goals.{goal_conflicts}
use Rattle.pl_semantics.specs.Activities.{activity_conflicts}
use Rattle.pl_semantics.specs.Links.{link_conflicts}
use Rattle.pl_semantics.specs.Timelines.{timeline_conflicts}

-- the conflicts of goals, of activities, of links and orders, and of timelines, in their order, none twice
unfoldable pub conflicts_of : PlanState → List Conflict
conflicts_of s = sorted (goal_conflicts s ++ activity_conflicts s ++ link_conflicts s ++ timeline_conflicts s)
