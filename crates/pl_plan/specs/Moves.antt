-- What the moves of repair leave of the activities.
use Rattle.std.specs.Prelude.{◌≡◌, ℕ, ◌==◌, ◌||◌, not, Bool, List, filter, None, if◌then◌else◌}
use Rattle.pl_plan.specs.declared.activity.Activity.{Activity}
use Rattle.pl_plan.specs.Trees.{descends}

-- those whose id passes the test
abbrev pub kept : (ℕ → Bool) → List Activity → List Activity
kept stays activities = filter (λ a. stays a.id) activities

-- all but what descends from this one
abbrev pub without_subtree : ℕ → List Activity → List Activity
without_subtree top activities = kept (λ id. not (descends activities top id)) activities

-- all but what descends from this one's children
abbrev pub without_below : ℕ → List Activity → List Activity
without_below top activities = kept (λ id. (id == top) || not (descends activities top id)) activities

-- with no alternative chosen, if it is the activity of this id
abbrev pub abstracted : ℕ → Activity → Activity
abstracted top a = if a.id == top then record a { detail = None } else a

-- the change of an activity leaves its id, its kind and its place in the tree
pub record KeepsTree (change : Activity → Activity) : Type 0 where
  pub id : (a : Activity) → (change a).id ≡ a.id
  pub kind : (a : Activity) → (change a).kind ≡ a.kind
  pub parent : (a : Activity) → (change a).parent ≡ a.parent
