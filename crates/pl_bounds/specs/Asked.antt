-- What moves ask for in place of what they take out.
use Rattle.std.specs.Prelude.{◌≡◌, ◌⊎◌, ℕ, true, List, map}
use Rattle.pl_plan.specs.declared.activity.Activity.{Activity}
use Rattle.pl_plan.specs.declared.repair.RepairMove.{RepairMove}
use Rattle.pl_update.specs.Changes.Replaced.{with_plan}
use Rattle.pl_update.specs.Timelines.Laws.{gone_from, coming_to}
use Rattle.pl_moves.specs.Runs.{goes_on}
use Rattle.pl_semantics.specs.declared.plan_state.PlanState.{PlanState}
use Rattle.pl_bounds.specs.Moved.{demand_moved}
use Rattle.pl_bounds.specs.declared.asking.Asking.{Asking}

-- What activities ask for that go, and what those ask for that come, once it stands at a start.
pub record IsAskedBy (s : PlanState) (gone : List ℕ) (more : List Activity) (a : Asking) (start : ℕ) : Type 0 where
  pub going : a.going.items ≡ gone_from s gone
  pub coming : map (demand_moved a.start start) a.coming.items ≡ coming_to (with_plan gone more s) more

-- it places the same as the first one, at another start perhaps
abbrev pub IsAlike : RepairMove → RepairMove → Type 0
IsAlike first m = (m ≡ first) ⊎ (goes_on first m ≡ true)
