-- The moves that are tried for a conflict, in order.
use Rattle.std.specs.Prelude.{ℕ, ◌<◌, ◌≤◌, ◌==◌, Bool, true, false, ◌&&◌, not, ℤ, List, [], ◌∷◌, filter, take, Option, Some, None, if◌then◌else◌}
use Rattle.std.specs.Ordering.{int_eq}
use Rattle.std.specs.List.{list_any}
use Rattle.pl_conflict.specs.declared.conflict.Conflict.{Conflict}
use Rattle.pl_conflict.specs.declared.conflict.Code.{Code}
use Rattle.pl_conflict.specs.declared.conflict.Code.TheVariants as code
use Rattle.pl_plan.specs.declared.activity.Activity.{Activity}
use Rattle.pl_plan.specs.declared.repair.RepairMove.{RepairMove}
use Rattle.pl_plan.specs.declared.repair.RepairMove.TheVariants.{Add, Delete, Shift, Detail, Abstract, Assign, Drop}
use Rattle.pl_semantics.specs.declared.plan_state.PlanState.{PlanState}
use Rattle.pl_semantics.specs.PlanStates.{found, goal_at, of_found}
use Rattle.pl_semantics.specs.Activities.{value_in}
use Rattle.pl_semantics.specs.Moves.{is_proper}
use Rattle.pl_semantics.specs.Starts.{moves_of}
use Rattle.pl_semantics.specs.Repairs.{for_goal, for_unset, for_bad_value, for_undetailed, for_overrun, for_temporal, for_linked}
use Rattle.pl_semantics.specs.LineRepairs.{for_over, for_low, for_high, for_must, for_bad_step}

-- ---- all of them

abbrev pub tried_for : PlanState → Conflict → Code → List RepairMove
tried_for s k code.OpenGoal = of_found (for_goal s) (goal_at s k.subject)
tried_for s k code.OffGoal = of_found (moves_of s) (found s k.subject)
tried_for s k code.Late = of_found (moves_of s) (found s k.subject)
tried_for s k code.Unset = of_found (λ a. for_unset s a k.detail) (found s k.subject)
tried_for s k code.BadValue = of_found (for_bad_value s) (found s k.subject)
tried_for s k code.Undetailed = of_found (for_undetailed s) (found s k.subject)
tried_for s k code.Overrun = of_found (for_overrun s) (found s k.subject)
tried_for s k code.Temporal = of_found (λ a. for_temporal s a k.detail) (found s k.subject)
tried_for s k code.Linked = of_found (λ a. for_linked s a k.detail) (found s k.subject)
tried_for s k code.Over = for_over s k.subject k.a k.b
tried_for s k code.Low = for_low s k.subject k.a k.b
tried_for s k code.High = for_high s k.subject k.a k.b
tried_for s k code.Must = of_found (λ a. for_must s a k.detail k.a) (found s k.subject)
tried_for s k code.BadStep = of_found (λ a. for_bad_step s a k.detail k.a) (found s k.subject)

-- ---- what is left out

-- a shift to the present start, or an assignment of the present value
abbrev pub has_start : ℕ → Option Activity → Bool
has_start start None = false
has_start start (Some a) = a.start == start

abbrev pub is_value : ℤ → Option ℤ → Bool
is_value v None = false
is_value v (Some w) = int_eq v w

abbrev pub has_value : PlanState → ℕ → ℤ → Option Activity → Bool
has_value s n v None = false
has_value s n v (Some a) = is_value v (value_in s a n)

abbrev pub changes_nothing : PlanState → RepairMove → Bool
changes_nothing s (Shift id start) = has_start start (found s id)
changes_nothing s (Assign id param value) = has_value s param value (found s id)
changes_nothing s _ = false

abbrev pub is_worth : PlanState → RepairMove → Bool
is_worth s m = is_proper s m && not (changes_nothing s m)

abbrev pub same_number : Option ℕ → Option ℕ → Bool
same_number None None = true
same_number None (Some n) = false
same_number (Some m) None = false
same_number (Some m) (Some n) = m == n

-- whether two moves are one
abbrev pub same_move : RepairMove → RepairMove → Bool
same_move (Add kind start goal) (Add k t g) = (kind == k) && ((start == t) && same_number goal g)
same_move (Delete id) (Delete i) = id == i
same_move (Shift id start) (Shift i t) = (id == i) && (start == t)
same_move (Detail id alternative) (Detail i a) = (id == i) && (alternative == a)
same_move (Abstract id) (Abstract i) = id == i
same_move (Assign id param value) (Assign i p v) = (id == i) && ((param == p) && int_eq value v)
same_move (Drop number) (Drop n) = number == n
same_move _ _ = false

-- the start that a move gives, if it gives one, lies from 1 to one before the horizon
abbrev pub StartsWithin : PlanState → RepairMove → Type 0
StartsWithin s (Add kind start goal) = (1 ≤ start) × (start < s.model.horizon)
StartsWithin s (Shift id start) = (1 ≤ start) × (start < s.model.horizon)
StartsWithin s _ = Unit {0}

-- each move where it first stands
abbrev pub once_from : List RepairMove → List RepairMove → List RepairMove
once_from seen [] = []
once_from seen (m ∷ more) = if list_any (same_move m) seen then once_from seen more else m ∷ once_from (m ∷ seen) more

-- Without those that are not proper or change nothing, then without repeats, and then the first 256. Starts outside 1 to one
-- before the horizon were left out before.
unfoldable pub candidates_of : PlanState → Conflict → List RepairMove
candidates_of s k = take 256 (once_from [] (filter (is_worth s) (tried_for s k k.code)))
