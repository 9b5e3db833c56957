-- The moves for one alternative and for one parameter, by their numbers, and the activities that serve a goal.
use Rattle.std.specs.Prelude.{ℕ, ℤ, pos, List, [], if◌then◌else◌, Some}
use Rattle.std.specs.Int.{int_min, int_max}
use Rattle.std.specs.List.{flat_map}
use Rattle.pl_facts.specs.declared.goal.Goal.{Goal}
use Rattle.pl_model.specs.declared.alternatives.Alternative.{Alternative}
use Rattle.pl_model.specs.declared.expressions.Expr.{Expr}
use Rattle.pl_model.specs.declared.parameters.Param.{Param}
use Rattle.pl_plan.specs.declared.repair.RepairMove.{RepairMove}
use Rattle.pl_plan.specs.declared.repair.RepairMove.TheVariants.{Add, Assign, Detail}
use Rattle.pl_semantics.specs.declared.plan_state.PlanState.{PlanState}
use Rattle.pl_semantics.specs.Starts.{floor_at, last_of, spread, starting}
use Rattle.pl_semantics.specs.Moves.{is_free}
use Rattle.pl_semantics.specs.Repairs.{assigns}

abbrev pub detail_of : ℕ → ℕ × Alternative → RepairMove
detail_of id k = Detail id k.0

abbrev pub assign_to : ℕ → ℕ → ℤ → RepairMove
assign_to id n v = Assign id n v

-- values for a parameter, where it is free
abbrev pub assigns_if_free : List (ℕ × Expr) → ℕ → ℕ × Param → List RepairMove
assigns_if_free bindings id p = if is_free bindings p then assigns id p else []

-- values for the parameter that has this number
abbrev pub assigns_as : ℕ → ℕ → Param → List RepairMove
assigns_as id n p = assigns id (n, p)

-- additions of an activity that serves a goal, one for each start that is tried in its window
abbrev pub serving : PlanState → Goal → List RepairMove
serving s g = flat_map (starting s (λ start. Add g.kind start (Some g.number))) (spread (int_max (pos g.earliest) (floor_at s)) (int_min (pos g.latest) (last_of s)))
