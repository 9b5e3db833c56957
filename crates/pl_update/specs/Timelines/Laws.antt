-- What is asked for by those that go and by those that come.
use Rattle.std.specs.Prelude.{◌≢◌, ℕ, List, AllPairs}
use Rattle.std.specs.List.{flat_map}
use Rattle.pl_plan.specs.declared.activity.Activity.{Activity}
use Rattle.pl_semantics.specs.declared.plan_state.PlanState.{PlanState}
use Rattle.pl_semantics.specs.declared.demand.Demand.{Demand}
use Rattle.pl_semantics.specs.PlanStates.{found, of_found}
use Rattle.pl_semantics.specs.Demands.{demands_at}

-- no id stands twice
abbrev pub AreOnce : List ℕ → Type 0
AreOnce gone = AllPairs (λ (one other : ℕ). one ≢ other) gone

-- what the activities of these ids ask for
abbrev pub gone_from : PlanState → List ℕ → List Demand
gone_from s gone = flat_map (λ id. of_found (demands_at s) (found s id)) gone

-- what these activities ask for
abbrev pub coming_to : PlanState → List Activity → List Demand
coming_to s more = flat_map (demands_at s) more
