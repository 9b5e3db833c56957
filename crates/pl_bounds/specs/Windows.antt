-- The starts that the goal of a root allows.
use Rattle.std.specs.Prelude.{◌≡◌, ℕ, ◌+◌, ◌≤◌, ◌||◌, nat_lt, Bool, false, Option, Some, None, IfSome, if◌then◌else◌}
use Rattle.pl_facts.specs.declared.goal.Goal.{Goal}
use Rattle.pl_plan.specs.declared.repair.RepairMove.TheVariants.{Shift}
use Rattle.pl_moves.specs.Runs.{CanBeMade}
use Rattle.pl_semantics.specs.declared.plan_state.PlanState.{PlanState}
use Rattle.pl_semantics.specs.Moves.{applied}
use Rattle.pl_bounds.specs.Plain.{count_of_plain}
use Rattle.pl_bounds.specs.Standing.{IsServedBy}
use Rattle.pl_bounds.specs.declared.window.Window.{Window}

abbrev pub window_for : Goal → Window
window_for g = record { earliest = g.earliest; latest = g.latest }

-- it is that of the goal which the activity of this id serves
pub record IsWindowOf (s : PlanState) (id : ℕ) (w : Window) : Type 0 where
  pub g : Goal
  pub served : IsServedBy s id g
  pub is : w ≡ window_for g

-- whether a start is outside, where there is a window
abbrev pub is_off : Option Window → ℕ → Bool
is_off None start = false
is_off (Some w) start = nat_lt start w.earliest || nat_lt w.latest start

-- one more, where the start is outside
abbrev pub or_one_more : Option Window → ℕ → ℕ → ℕ
or_one_more w start n = n + (if is_off w start then 1 else 0)

-- A number of conflicts of goals and activities that a shift leaves at least, to whichever start; and one more where that start is
-- outside the window of the goal that what moves serves.
abbrev pub IsLeftByShift : PlanState → ℕ → ℕ → Type 0
IsLeftByShift s id n = (w : Option Window) → IfSome w (λ x. IsWindowOf s id x) → (to : ℕ) → CanBeMade s (Shift id to) → or_one_more w to n ≤ count_of_plain (applied s (Shift id to))
