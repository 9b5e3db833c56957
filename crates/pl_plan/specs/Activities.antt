-- Activities by rising id.
use Rattle.std.specs.Prelude.{◌≡◌, ℕ, ◌==◌, nat_lt, if◌then◌else◌, List, [], ◌∷◌, map, Option, Some, None, IsSome, option_and_then}
use Rattle.pl_lists.specs.Lists as lists
use Rattle.pl_plan.specs.declared.activity.Activity.{Activity}

-- ids rise, from this one on
abbrev pub RiseFrom : ℕ → List Activity → Type 0
RiseFrom from activities = lists.RiseFrom (λ (a : Activity). a.id) from activities

-- ids rise, so no id stands twice
abbrev pub AreRising : List Activity → Type 0
AreRising activities = RiseFrom 0 activities

-- the activity of this id
abbrev pub activity_of : ℕ → List Activity → Option Activity
activity_of id [] = None
activity_of id (a ∷ more) = if a.id == id then Some a else activity_of id more

-- an activity has this id
abbrev pub IsLive : ℕ → List Activity → Type 0
IsLive id activities = IsSome (activity_of id activities)

-- with another activity, before the first one of a larger id
abbrev pub placed : Activity → List Activity → List Activity
placed a [] = a ∷ []
placed a (x ∷ more) = if nat_lt x.id a.id then x ∷ placed a more else a ∷ x ∷ more

-- without the activity of this id
abbrev pub without : ℕ → List Activity → List Activity
without id activities = lists.without (λ (a : Activity). a.id == id) activities

-- with another activity in the place of the one of its id
abbrev pub exchanged : Activity → List Activity → List Activity
exchanged a activities = map (λ x. if x.id == a.id then a else x) activities

-- the activity of its id has the same parent and the same goal
abbrev pub KeepsPlace : Activity → List Activity → Type 0
KeepsPlace a activities = (b : Activity) → activity_of a.id activities ≡ Some b → (b.parent ≡ a.parent) × (b.goal ≡ a.goal)

-- ---- measured ends

-- with its end measured: it ends at this moment
abbrev pub ended : ℕ → Activity → Activity
ended moment a = record a { measured = Some moment }

-- with the end of the activity of this id measured
abbrev pub with_end : ℕ → ℕ → List Activity → List Activity
with_end id moment activities = map (λ a. if a.id == id then ended moment a else a) activities

-- the measured end of the activity of this id
abbrev pub measured_of : ℕ → List Activity → Option ℕ
measured_of id activities = option_and_then (λ (a : Activity). a.measured) (activity_of id activities)
