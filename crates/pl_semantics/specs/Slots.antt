-- The activity in a slot, among ids.
use Rattle.std.specs.Prelude.{ℕ, if◌then◌else◌, List, [], ◌∷◌, Option, Some, None}
use Rattle.std.specs.Option.{option_or}
use Rattle.pl_plan.specs.declared.activity.Activity.{Activity}
use Rattle.pl_plan.specs.Activities.{activity_of}
use Rattle.pl_plan.specs.Fitting.{fills}

-- the activity, if it is in this slot of this parent
abbrev pub filling : ℕ → ℕ → Option Activity → Option Activity
filling parent slot None = None
filling parent slot (Some a) = if fills parent slot a then Some a else None

-- the first activity of these ids that is in this slot of this parent
abbrev pub first_filling : List Activity → ℕ → ℕ → List ℕ → Option Activity
first_filling activities parent slot [] = None
first_filling activities parent slot (id ∷ ids) = option_or (filling parent slot (activity_of id activities)) (first_filling activities parent slot ids)
