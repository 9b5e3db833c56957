-- Which of some moves is the first that leaves the fewest conflicts: their counts alone tell it.
use Rattle.std.specs.Prelude.{ℕ, nat_le, Bool, List, map}
use Rattle.std.specs.List.{list_all, position_or_len}
use Rattle.pl_plan.specs.declared.repair.RepairMove.{RepairMove}
use Rattle.pl_semantics.specs.declared.plan_state.PlanState.{PlanState}
use Rattle.pl_semantics.specs.Legal.{left_after}

-- how many conflicts each of them leaves
abbrev pub counts_after : PlanState → List RepairMove → List ℕ
counts_after s moves = map (left_after s) moves

-- no count is less
abbrev pub is_least : List ℕ → ℕ → Bool
is_least counts n = list_all (λ other. nat_le n other) counts

-- the place of the first of the least counts
abbrev pub first_least : List ℕ → ℕ
first_least counts = position_or_len (is_least counts) counts

-- the place of the first move that leaves the fewest conflicts
abbrev pub fewest_place : PlanState → List RepairMove → ℕ
fewest_place s moves = first_least (counts_after s moves)
