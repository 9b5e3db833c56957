-- Which goals and activities a replacement of activities concerns.
use Rattle.std.specs.Prelude.{ℕ, Bool, not, List, ◌++◌, Option, filter, option_and_then}
use Rattle.std.specs.List.{flat_map, filter_map, list_any}
use Rattle.std.specs.Option.{option_to_list}
use Rattle.pl_plan.specs.declared.activity.Activity.{Activity}
use Rattle.pl_plan.specs.Index.{is_number}
use Rattle.pl_plan.specs.Serving.{served_in, serves}
use Rattle.pl_plan.specs.Trees.{children_of}
use Rattle.pl_update.specs.Changes.Replaced.{touched}
use Rattle.pl_semantics.specs.declared.plan_state.PlanState.{PlanState}
use Rattle.pl_semantics.specs.PlanStates.{found}

-- the goal that the activity of this id serves, if it serves one
abbrev pub served_by_id : PlanState → ℕ → Option ℕ
served_by_id s id = option_and_then served_in (found s id)

abbrev pub served_at : PlanState → ℕ → List ℕ
served_at s id = option_to_list (served_by_id s id)

-- the goals that those serve which go, and that those serve which come
unfoldable pub touched_goals : PlanState → List ℕ → List Activity → List ℕ
touched_goals s gone more = flat_map (served_at s) gone ++ filter_map served_in more

-- whether one of those that go serves the goal, and whether one of those that come does
abbrev pub served_before : PlanState → List ℕ → ℕ → Bool
served_before s gone n = list_any (λ id. is_number n (served_by_id s id)) gone

abbrev pub served_after : List Activity → ℕ → Bool
served_after more n = list_any (serves n) more

-- the goals that those serve which go and none that comes
unfoldable pub lost_goals : PlanState → List ℕ → List Activity → List ℕ
lost_goals s gone more = flat_map (λ id. filter (λ n. not (served_after more n)) (served_at s id)) gone

-- the goals that those serve which come and none that goes
unfoldable pub met_goals : PlanState → List ℕ → List Activity → List ℕ
met_goals s gone more = flat_map (λ a. filter (λ n. not (served_before s gone n)) (option_to_list (served_in a))) more

-- the lost ones and the met ones
abbrev pub turned_goals : PlanState → List ℕ → List Activity → List ℕ
turned_goals s gone more = lost_goals s gone more ++ met_goals s gone more

abbrev pub children_at : PlanState → ℕ → List ℕ
children_at s id = children_of id s.plan.activities

-- those that go, those that come, and the children of those that go
unfoldable pub touched_ids : PlanState → List ℕ → List Activity → List ℕ
touched_ids s gone more = touched gone more ++ flat_map (children_at s) gone
