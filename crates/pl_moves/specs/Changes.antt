-- What a move takes out of the plan, and what it puts in its place.
use Rattle.std.specs.Prelude.{ℕ, ◌≤◌, ◌==◌, ℤ, List, [], ◌∷◌, map, filter, Some, None, if◌then◌else◌}
use Rattle.pl_plan.specs.declared.activity.Activity.{Activity}
use Rattle.pl_plan.specs.declared.repair.RepairMove.{RepairMove}
use Rattle.pl_plan.specs.declared.repair.RepairMove.TheVariants.{Add, Delete, Shift, Detail, Abstract, Assign, Drop}
use Rattle.pl_plan.specs.Activities.{IsLive}
use Rattle.pl_plan.specs.Trees.{subtree_of}
use Rattle.pl_semantics.specs.declared.plan_state.PlanState.{PlanState}
use Rattle.pl_semantics.specs.PlanStates.{found, of_found}
use Rattle.pl_semantics.specs.Moves.{is_under, root_for, moved_with, detailed, children_for, with_value}

-- the ids of the activities that it takes out: each one that it changes
abbrev pub gone_by : PlanState → RepairMove → List ℕ
gone_by s (Add kind start goal) = []
gone_by s (Delete id) = subtree_of id s.plan.activities
gone_by s (Shift id start) = subtree_of id s.plan.activities
gone_by s (Detail id alternative) = id ∷ []
gone_by s (Abstract id) = subtree_of id s.plan.activities
gone_by s (Assign id param value) = subtree_of id s.plan.activities
gone_by s (Drop goal) = []

abbrev pub with_children : PlanState → ℕ → Activity → List Activity
with_children s alternative a = detailed alternative a ∷ children_for s alternative (Some a)

abbrev pub undetailed : Activity → List Activity
undetailed a = record a { detail = None } ∷ []

-- with the value set, if it is the activity of this id
abbrev pub assigned : ℕ → ℕ → ℤ → Activity → Activity
assigned id param value a = if a.id == id then with_value param value a else a

-- those that it puts in
abbrev pub placed_by : PlanState → RepairMove → List Activity
placed_by s (Add kind start goal) = root_for s kind start goal ∷ []
placed_by s (Delete id) = []
placed_by s (Shift id start) = moved_with s start (found s id)
placed_by s (Detail id alternative) = of_found (with_children s alternative) (found s id)
placed_by s (Abstract id) = of_found undetailed (found s id)
placed_by s (Assign id param value) = map (assigned id param value) (filter (is_under s id) s.plan.activities)
placed_by s (Drop goal) = []

-- ---- what its activities and its start keep to

-- the activity that it names is live
abbrev pub IsNamedLive : PlanState → RepairMove → Type 0
IsNamedLive s (Delete id) = IsLive id s.plan.activities
IsNamedLive s (Shift id start) = IsLive id s.plan.activities
IsNamedLive s (Detail id alternative) = IsLive id s.plan.activities
IsNamedLive s (Abstract id) = IsLive id s.plan.activities
IsNamedLive s (Assign id param value) = IsLive id s.plan.activities
IsNamedLive s _ = Unit {0}

-- a start that it moves to is no later than horizons are
abbrev pub IsNear : RepairMove → Type 0
IsNear (Shift id start) = start ≤ 10000000
IsNear _ = Unit {0}

-- it changes activities, not a goal
abbrev pub IsOfActivities : RepairMove → Type 0
IsOfActivities (Drop goal) = ⊥
IsOfActivities _ = Unit {0}
