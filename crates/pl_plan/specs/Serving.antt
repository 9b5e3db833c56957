-- Which roots serve which goal: a root serves the goal that it carries.
use Rattle.std.specs.Prelude.{ℕ, Bool, List, map, filter, Option, Some, None}
use Rattle.std.specs.List.{list_any}
use Rattle.pl_plan.specs.declared.activity.Activity.{Activity}
use Rattle.pl_plan.specs.Index.{is_number}
use Rattle.pl_plan.specs.Trees.{id_of}

abbrev pub goal_at_root : Option (ℕ × ℕ) → Option ℕ → Option ℕ
goal_at_root None goal = goal
goal_at_root (Some parent) goal = None

-- the number of the goal that an activity serves: a root's goal
abbrev pub served_in : Activity → Option ℕ
served_in a = goal_at_root a.parent a.goal

-- whether it is a root that serves the goal of this number
abbrev pub serves : ℕ → Activity → Bool
serves goal a = is_number goal (served_in a)

-- the ids of the roots that serve the goal, by rising id
abbrev pub serving : ℕ → List Activity → List ℕ
serving goal activities = map id_of (filter (serves goal) activities)

-- whether some root serves the goal
abbrev pub is_served : ℕ → List Activity → Bool
is_served goal activities = list_any (serves goal) activities
