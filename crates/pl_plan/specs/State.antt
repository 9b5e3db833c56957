-- What a plan is: a record, since a plan will hold more than its activities.
use Rattle.std.specs.Prelude.{List}
use Rattle.pl_plan.specs.declared.activity.Activity.{Activity}

pub record PlanValue : Type 0 where
  -- the live activities, by rising id
  pub activities : List Activity
