-- Moves of activities that are found by their ids.
use Rattle.std.specs.Prelude.{ℕ, List}
use Rattle.pl_plan.specs.declared.repair.RepairMove.{RepairMove}
use Rattle.pl_semantics.specs.declared.plan_state.PlanState.{PlanState}
use Rattle.pl_semantics.specs.PlanStates.{found, of_found}
use Rattle.pl_semantics.specs.Starts.{moves_of}
use Rattle.pl_semantics.specs.LineRepairs.{around}

abbrev pub around_id : PlanState → ℕ → ℕ → ℕ → List RepairMove
around_id s a b id = of_found (around s a b) (found s id)

abbrev pub moves_of_id : PlanState → ℕ → List RepairMove
moves_of_id s id = of_found (moves_of s) (found s id)
