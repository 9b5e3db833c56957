-- Temporal links without a partner, and orders of slots that are not met.
use Rattle.std.specs.Prelude.{ℕ, ◌||◌, min, Bool, true, false, List, [], map, find, slice_get, Option, Some, None}
use Rattle.std.specs.List.{flat_map}
use Rattle.pl_conflict.specs.declared.conflict.Conflict.{Conflict}
use Rattle.pl_conflict.specs.declared.conflict.Code.TheVariants.{Temporal, Linked}
use Rattle.pl_model.specs.declared.alternatives.Order.{Order}
use Rattle.pl_plan.specs.declared.activity.Activity.{Activity}
use Rattle.pl_plan.specs.Fitting.{fills}
use Rattle.pl_links.specs.declared.placed.Placed.{Placed}
use Rattle.pl_links.specs.declared.broken.Broken.{Broken}
use Rattle.pl_links.specs.Broken.{broken_by, orders_of}
use Rattle.pl_semantics.specs.declared.plan_state.PlanState.{PlanState}
use Rattle.pl_semantics.specs.PlanStates.{found, is_ahead, end_at, of_found, when}

-- an activity with its end
abbrev pub placed_of : PlanState → Activity → Placed
placed_of s a = record { id = a.id; kind = a.kind; start = a.start; end = end_at s a; parent = a.parent; detail = a.detail }

abbrev pub placed_in : PlanState → List Placed
placed_in s = map (placed_of s) s.plan.activities

-- ---- temporal links

abbrev pub lone : Activity → ℕ → Conflict
lone a index = record { from = a.start; code = Temporal; subject = a.id; detail = index; a = 0; b = 0 }

-- ---- orders of slots

-- the activity in a slot of a parent, or the parent
abbrev pub place_in : PlanState → Activity → Option ℕ → Option Activity
place_in s parent None = Some parent
place_in s parent (Some slot) = find (fills parent.id slot) s.plan.activities

abbrev pub order_at : PlanState → Activity → ℕ → Option Order
order_at s parent index = slice_get (orders_of s.model (placed_of s parent)) index

abbrev pub unmet_by : PlanState → Activity → ℕ → Activity → Activity → List Conflict
unmet_by s parent index first second = when (is_ahead s parent || (is_ahead s first || is_ahead s second)) (record { from = min parent.start (min first.start second.start); code = Linked; subject = parent.id; detail = index; a = 0; b = 0 })

abbrev pub unmet_from : PlanState → Activity → ℕ → Option Activity → Option Activity → List Conflict
unmet_from s parent index (Some first) (Some second) = unmet_by s parent index first second
unmet_from s parent index (Some first) None = []
unmet_from s parent index None second = []

abbrev pub unmet_order : PlanState → Activity → ℕ → Order → List Conflict
unmet_order s parent index o = unmet_from s parent index (place_in s parent o.first) (place_in s parent o.second)

-- ---- the part

-- A link of a firm activity that is not committed or still to start. An order of which the parent or one of the two is so.
abbrev pub link_conflict : PlanState → Activity → Bool → ℕ → List Conflict
link_conflict s a false index = when (is_ahead s a) (lone a index)
link_conflict s a true index = of_found (unmet_order s a index) (order_at s a index)

abbrev pub conflict_of : PlanState → Activity → Broken → List Conflict
conflict_of s a b = link_conflict s a b.slots b.index

unfoldable pub links_at : PlanState → Activity → List Conflict
links_at s a = flat_map (conflict_of s a) (broken_by s.model (placed_in s) (placed_of s a))

-- the same of the activity of this id
abbrev pub linked_of : PlanState → ℕ → List Conflict
linked_of s id = of_found (links_at s) (found s id)

abbrev pub link_conflicts : PlanState → List Conflict
link_conflicts s = flat_map (links_at s) s.plan.activities
