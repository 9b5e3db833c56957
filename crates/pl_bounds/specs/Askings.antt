-- What a move asks for, and each move that places the same at another start.
use Rattle.std.specs.Prelude.{ℕ, ◌+◌, [], ◌∷◌, Option, None}
use Rattle.pl_plan.specs.declared.activity.Activity.{Activity}
use Rattle.pl_plan.specs.declared.repair.RepairMove.{RepairMove}
use Rattle.pl_moves.specs.Changes.{gone_by, placed_by}
use Rattle.pl_moves.specs.Runs.{CanBeMade, start_of}
use Rattle.pl_semantics.specs.declared.plan_state.PlanState.{PlanState}
use Rattle.pl_semantics.specs.Moves.{root_for}
use Rattle.pl_bounds.specs.Asked.{IsAlike, IsAskedBy}
use Rattle.pl_bounds.specs.declared.asking.Asking.{Asking}

-- it is what each move asks for that can be made and places the same as the first one
abbrev pub IsAskingOf : PlanState → RepairMove → Asking → Type 0
IsAskingOf s first a = (m : RepairMove) → CanBeMade s m → IsAlike first m → IsAskedBy s (gone_by s m) (placed_by s m) a (start_of m)

-- it serves no goal
abbrev pub without_goal : Activity → Activity
without_goal a = record a { goal = None }

-- the state with this activity alone in its plan, and no goals
abbrev pub only : PlanState → Activity → PlanState
only s a = record s { plan = record { activities = a ∷ [] }; goals = []; next_id = s.next_id + 1 }

-- the state with the root alone that a move adds; it serves no goal there
abbrev pub root_alone : PlanState → ℕ → ℕ → Option ℕ → PlanState
root_alone s kind start goal = only s (without_goal (root_for s kind start goal))
