-- Numbers of conflicts that moves leave at least.
use Rattle.std.specs.Prelude.{ℕ, ◌-◌, ◌≤◌, List, [], ◌∷◌}
use Rattle.pl_plan.specs.declared.repair.RepairMove.{RepairMove}
use Rattle.pl_semantics.specs.declared.plan_state.PlanState.{PlanState}
use Rattle.pl_semantics.specs.Legal.{left_after}
use Rattle.pl_semantics.specs.Moves.{applied}
use Rattle.pl_bounds.specs.Marks.{count_of_states}

-- a number for each move, no higher than the one that a function has for it
abbrev pub AreNoMore : (RepairMove → ℕ) → List RepairMove → List ℕ → Type 0
AreNoMore f [] [] = Unit {0}
AreNoMore f (m ∷ moves) (n ∷ ns) = (n ≤ f m) × AreNoMore f moves ns
AreNoMore f _ _ = ⊥

-- a number for each move, no higher than the number of conflicts that it leaves
abbrev pub AreLeast : PlanState → List RepairMove → List ℕ → Type 0
AreLeast s moves ns = AreNoMore (left_after s) moves ns

-- how many conflicts a move leaves, if those of states are not counted
unfoldable pub left_beside_states : PlanState → RepairMove → ℕ
left_beside_states s m = left_after s m - count_of_states (applied s m)

-- a number for each move, no higher than the number of conflicts that it leaves beside those of states
abbrev pub AreLeastBesideStates : PlanState → List RepairMove → List ℕ → Type 0
AreLeastBesideStates s moves ns = AreNoMore (left_beside_states s) moves ns
