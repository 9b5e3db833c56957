-- How far each activity that is not committed can move, and the paths that show it.
use Rattle.std.specs.Prelude.{ℕ, ◌==◌, not, ℤ, pos, neg_ℤ, Bool, List, map, filter, find, Option, Some, None}
use Rattle.pl_stn.specs.declared.net.Edge.{Edge}
use Rattle.pl_stn.specs.declared.net.Net.{Net}
use Rattle.pl_stn.specs.Nets.{time_of}
use Rattle.pl_model.specs.declared.reservations.Point.TheVariants.{Start}
use Rattle.pl_links.specs.declared.placed.Placed.{Placed}
use Rattle.pl_semantics.specs.declared.plan_state.PlanState.{PlanState}
use Rattle.pl_semantics.specs.PlanStates.{natural}
use Rattle.pl_times.specs.Times.{ArePath}
use Rattle.pl_flex.specs.declared.window.Window.{Window}
use Rattle.pl_flex.specs.FlexNets.{point_at, firm_places, is_settled}

-- ---- windows

abbrev pub may_move : PlanState → ℕ × Placed → Bool
may_move s x = not (is_settled s x.1)

-- from the earliest to the latest time of the start of the activity at a place
abbrev pub window_of : List ℤ → List ℤ → ℕ × Placed → Window
window_of early late x = record {
  id = x.1.id;
  point = point_at x.0 Start;
  least = natural (time_of early (point_at x.0 Start));
  greatest = natural (time_of late (point_at x.0 Start));
}

-- of each firm activity that is not committed, by rising id
abbrev pub windows_of : PlanState → List ℤ → List ℤ → List Window
windows_of s early late = map (window_of early late) (filter (may_move s) (firm_places s))

-- ---- paths

abbrev pub window_with : ℕ → List Window → Option Window
window_with id windows = find (λ w. w.id == id) windows

-- There is a path exactly where there is a window. It leads from the point to the origin and allows no earlier start.
abbrev pub IsLowPath : Net → Option Window → Option (List Edge) → Type 0
IsLowPath net None None = Unit {0}
IsLowPath net None (Some es) = ⊥
IsLowPath net (Some w) None = ⊥
IsLowPath net (Some w) (Some es) = ArePath net w.point 0 (neg_ℤ (pos w.least)) es

-- There is a path exactly where there is a window. It leads from the origin to the point and allows no later start.
abbrev pub IsHighPath : Net → Option Window → Option (List Edge) → Type 0
IsHighPath net None None = Unit {0}
IsHighPath net None (Some es) = ⊥
IsHighPath net (Some w) None = ⊥
IsHighPath net (Some w) (Some es) = ArePath net 0 w.point (pos w.greatest) es
