-- Activities of a plan that come into a store one after another.
use Rattle.std.specs.Prelude.{◌≡◌, ℕ, List, [], ◌∷◌, Option, Some}
use Rattle.std.specs.List.{fold}
use Rattle.pl_plan.specs.declared.activity.Activity.{Activity}
use Rattle.pl_plan.specs.Activities.{activity_of}
use Rattle.pl_links.specs.declared.placed.Placed.{Placed}
use Rattle.pl_links.specs.Items.{CanBePlaced, with_item}
use Rattle.pl_semantics.specs.declared.plan_state.PlanState.{PlanState}
use Rattle.pl_semantics.specs.Links.{placed_of}

-- an activity with this end
abbrev pub placed_with : Activity → Option ℕ → Placed
placed_with a end = record { id = a.id; kind = a.kind; start = a.start; end = end; parent = a.parent; detail = a.detail }

-- with these, each with its end
abbrev pub all_with : PlanState → List Activity → List Placed → List Placed
all_with s more items = fold (λ all a. with_item (placed_of s a) all) items more

-- each is live, and finds its id and its slot free when its turn comes
abbrev pub CanPlaceAll : PlanState → List Placed → List Activity → Type 0
CanPlaceAll s items [] = Unit {0}
CanPlaceAll s items (a ∷ more) = (activity_of a.id s.plan.activities ≡ Some a) × CanBePlaced s.model items (placed_of s a) × CanPlaceAll s (with_item (placed_of s a) items) more
