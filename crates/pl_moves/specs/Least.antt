-- A number of conflicts that a move leaves at least.
use Rattle.std.specs.Prelude.{ℕ, ◌==◌, length, slice_get, if◌then◌else◌}
use Rattle.pl_plan.specs.declared.repair.RepairMove.{RepairMove}
use Rattle.pl_plan.specs.declared.repair.RepairMove.TheVariants.{Add}
use Rattle.pl_plan.specs.Fitting.{alternatives_of}
use Rattle.pl_semantics.specs.declared.plan_state.PlanState.{PlanState}

-- One for a new activity whose kind has alternatives, since none is chosen. Of other moves nothing is known.
abbrev pub least_known : PlanState → RepairMove → ℕ
least_known s (Add kind start goal) = if length (alternatives_of (slice_get s.model.kinds kind)) == 0 then 0 else 1
least_known s _ = 0
