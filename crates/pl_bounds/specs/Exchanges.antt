-- What activities ask for that go, and what those ask for that come in their place.
use Rattle.std.specs.Prelude.{◌≡◌, ℕ, List}
use Rattle.pl_plan.specs.declared.activity.Activity.{Activity}
use Rattle.pl_semantics.specs.declared.demand.Demand.{Demand}
use Rattle.pl_semantics.specs.declared.plan_state.PlanState.{PlanState}
use Rattle.pl_update.specs.Changes.Replaced.{CanReplace, with_plan}
use Rattle.pl_update.specs.Timelines.Laws.{AreOnce, gone_from, coming_to}

-- The activities of these ids can be replaced by these others. `going` is what the first ask for, and `coming` what the others do.
pub record IsExchange (s : PlanState) (gone : List ℕ) (more : List Activity) (going coming : List Demand) : Type 0 where
  pub can : CanReplace s gone more
  pub once : AreOnce gone
  pub goes : going ≡ gone_from s gone
  pub comes : coming ≡ coming_to (with_plan gone more s) more
