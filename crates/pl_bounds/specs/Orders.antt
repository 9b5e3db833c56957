-- Orders of slots that are not met once a child is moved alone to another start, while its parent and the parent's other children stay.
use Rattle.std.specs.Prelude.{ℕ, ◌&&◌, ◌||◌, if◌then◌else◌, Bool, false, List, filter, length, Option, Some, None, option_and_then}
use Rattle.std.specs.Option.{option_map}
use Rattle.pl_model.specs.declared.reservations.Point.{Point}
use Rattle.pl_model.specs.declared.alternatives.Order.{Order}
use Rattle.pl_links.specs.declared.placed.Placed.{Placed}
use Rattle.pl_links.specs.Items.{fills, child_of}
use Rattle.pl_links.specs.Broken.{moment_of, are_misplaced, orders_of}
use Rattle.pl_semantics.specs.declared.plan_state.PlanState.{PlanState}
use Rattle.pl_semantics.specs.Links.{placed_of, placed_in}
use Rattle.pl_semantics.specs.PlanStates.{found}
use Rattle.pl_bounds.specs.Ties.{placed_at}

-- ---- one order

-- an end of an order of the parent is the moved child
abbrev pub is_moved : Placed → Placed → Option ℕ → Bool
is_moved parent child None = false
is_moved parent child (Some slot) = fills parent.id slot child

-- the moved child is at one of its ends
abbrev pub speaks_of : Placed → Placed → Order → Bool
speaks_of parent child order = is_moved parent child order.first || is_moved parent child order.second

-- the moment of a point of the parent, of the moved child, or of the child that stays in another slot
abbrev pub moment_with : List Placed → Placed → Placed → Option ℕ → Point → Option ℕ
moment_with items parent child None point = moment_of point parent
moment_with items parent child (Some slot) point = if fills parent.id slot child then moment_of point child else option_and_then (moment_of point) (child_of parent.id slot items)

-- both ends are firm, and the order is not met
abbrev pub is_missed : List Placed → Placed → Placed → Order → Bool
is_missed items parent child order = are_misplaced order.low order.high (moment_with items parent child order.first order.first_end) (moment_with items parent child order.second order.second_end)

-- the moved child is at one of its ends, and it is not met
abbrev pub is_unmet_with : List Placed → Placed → Placed → Order → Bool
is_unmet_with items parent child order = speaks_of parent child order && is_missed items parent child order

-- ---- how many there are

-- so many of the orders of this parent, if it is live
abbrev pub unmet_under : PlanState → Placed → Option Placed → ℕ
unmet_under s child None = 0
unmet_under s child (Some parent) = length (filter (is_unmet_with (placed_in s) parent child) (orders_of s.model parent))

-- so many of the orders of the parent in whose slot the child is, if it is in one
abbrev pub unmet_above : PlanState → Placed → Option (ℕ × ℕ) → ℕ
unmet_above s child None = 0
unmet_above s child (Some place) = unmet_under s child (option_map (placed_of s) (found s place.0))

-- the same of an activity that is moved alone, once it starts then; none if no activity is given
abbrev pub unmet_then : PlanState → ℕ → Option Placed → ℕ
unmet_then s start None = 0
unmet_then s start (Some p) = unmet_above s (placed_at start p) p.parent
