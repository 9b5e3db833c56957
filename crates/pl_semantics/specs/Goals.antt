-- What is wrong with goals, and with roots that serve them.
use Rattle.std.specs.Prelude.{ℕ, nat_le, nat_lt, ◌&&◌, ◌||◌, min, List, ◌++◌}
use Rattle.std.specs.List.{flat_map}
use Rattle.pl_conflict.specs.declared.conflict.Conflict.{Conflict}
use Rattle.pl_conflict.specs.declared.conflict.Code.TheVariants.{OpenGoal, OffGoal}
use Rattle.pl_facts.specs.declared.goal.Goal.{Goal}
use Rattle.pl_plan.specs.declared.activity.Activity.{Activity}
use Rattle.pl_semantics.specs.declared.plan_state.PlanState.{PlanState}
use Rattle.pl_semantics.specs.PlanStates.{floor_of, found, is_committed, is_open, goal_at, served_by, if_planned, of_found, when}

-- ---- open goals

abbrev pub open_goal : Goal → Conflict
open_goal g = record { from = g.latest; code = OpenGoal; subject = g.number; detail = 0; a = g.earliest; b = g.latest }

-- a goal is open, and its latest start is no less than the floor
unfoldable pub open_at : PlanState → Goal → List Conflict
open_at s g = when (is_open s g && nat_le (floor_of s) g.latest) (open_goal g)

-- the same of the goal of this number
abbrev pub open_of : PlanState → ℕ → List Conflict
open_of s n = of_found (open_at s) (goal_at s n)

-- ---- roots off their goals

abbrev pub off_goal : Activity → Goal → Conflict
off_goal a g = record { from = min a.start g.latest; code = OffGoal; subject = a.id; detail = g.number; a = g.earliest; b = g.latest }

abbrev pub off_from : Activity → Goal → List Conflict
off_from a g = when (nat_lt a.start g.earliest || nat_lt g.latest a.start) (off_goal a g)

-- an uncommitted root starts outside what the goal that it serves allows
unfoldable pub off_at : PlanState → Activity → List Conflict
off_at s a = if_planned (is_committed s a) (of_found (off_from a) (served_by s a))

-- the same of the activity of this id
abbrev pub off_of : PlanState → ℕ → List Conflict
off_of s id = of_found (off_at s) (found s id)

-- ---- the part

abbrev pub goal_conflicts : PlanState → List Conflict
goal_conflicts s = flat_map (open_at s) s.goals ++ flat_map (off_at s) s.plan.activities
