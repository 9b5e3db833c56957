-- The activities whose links and orders a replacement may touch: those that go or come, and their parents.
use Rattle.std.specs.Prelude.{ℕ, List, ◌∷◌, ◌++◌, option_to_list, filter}
use Rattle.std.specs.List.{flat_map}
use Rattle.pl_plan.specs.declared.activity.Activity.{Activity}
use Rattle.pl_plan.specs.Trees.{parent_in}
use Rattle.pl_links.specs.declared.broken.Broken.{Broken}
use Rattle.pl_links.specs.Sets.{is_of}
use Rattle.pl_semantics.specs.declared.plan_state.PlanState.{PlanState}
use Rattle.pl_semantics.specs.PlanStates.{found, of_found}

-- the ids of an activity and of its parent, if it has one
abbrev pub own_and_parent : Activity → List ℕ
own_and_parent a = a.id ∷ option_to_list (parent_in a)

abbrev pub ids_at : PlanState → ℕ → List ℕ
ids_at s id = of_found own_and_parent (found s id)

-- those of what goes, as it stands, and of what is placed
unfoldable pub near : PlanState → List ℕ → List Activity → List ℕ
near s gone more = flat_map (ids_at s) gone ++ flat_map own_and_parent more

-- what is broken of the activities of these ids
unfoldable pub broken_near : List Broken → List ℕ → List Broken
broken_near broken ids = flat_map (λ id. filter (is_of id) broken) ids
