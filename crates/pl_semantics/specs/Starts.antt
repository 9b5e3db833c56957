-- The starts that are tried for activities, and the moves that give them.
use Rattle.std.specs.Prelude.{ℕ, zero, suc, ◌+◌, ◌/◌, max, nat_lt, nat_le, Bool, ◌&&◌, ℤ, pos, negsuc, ◌+ℤ◌, ◌-ℤ◌, int_le, List, [], ◌∷◌, ◌++◌, filter, take, Option, Some, None, if◌then◌else◌}
use Rattle.std.specs.Int.{int_min, int_max}
use Rattle.std.specs.List.{flat_map, list_any}
use Rattle.pl_facts.specs.declared.goal.Goal.{Goal}
use Rattle.pl_model.specs.declared.reservations.Reservation.{Reservation}
use Rattle.pl_model.specs.declared.kinds.Kind.{Kind}
use Rattle.pl_plan.specs.declared.activity.Activity.{Activity}
use Rattle.pl_plan.specs.declared.repair.RepairMove.{RepairMove}
use Rattle.pl_plan.specs.declared.repair.RepairMove.TheVariants.{Add, Delete, Shift}
use Rattle.pl_plan.specs.Trees.{root_of}
use Rattle.pl_semantics.specs.declared.plan_state.PlanState.{PlanState}
use Rattle.pl_semantics.specs.PlanStates.{floor_of, found, served_by, reservations_in, numbered, natural, of_found}

-- ---- numbers to try

-- every how many numbers one is tried, so that there are at most sixteen
abbrev pub stride : ℕ → ℕ
stride width = max 1 ((width + 14) / 15)

abbrev pub steps_from : ℕ → ℤ → ℤ → ℕ → List ℤ
steps_from zero low high step = []
steps_from (suc n) low high step =
    if int_le low high then low ∷ steps_from n (low +ℤ pos step) high step else []

-- the stride between a low and a high number
abbrev pub stride_of : ℤ → ℤ → ℕ
stride_of low high = stride (natural (high -ℤ low))

-- the numbers from low to high that are tried: the low, and each step up from it; none where low is above high
unfoldable pub spread : ℤ → ℤ → List ℤ
spread low high = steps_from 16 low high (stride_of low high)

-- ---- moves of starts

-- a move with this start; left out where it lies outside 1 to one before the horizon
abbrev pub starting : PlanState → (ℕ → RepairMove) → ℤ → List RepairMove
starting s make (negsuc n) = []
starting s make (pos n) = if nat_le 1 n && nat_lt n s.model.horizon then make n ∷ [] else []

-- the last start that may be
abbrev pub last_of : PlanState → ℤ
last_of s = pos s.model.horizon -ℤ pos 1

abbrev pub floor_at : PlanState → ℤ
floor_at s = pos (floor_of s)

abbrev pub window_of : PlanState → Option Goal → List ℤ
window_of s None = spread (floor_at s) (last_of s)
window_of s (Some g) = spread (int_max (pos g.earliest) (floor_at s)) (pos g.latest)

-- the starts that are tried for an activity: the floor, then those of the window of the goal that it serves, else all from the floor
abbrev pub places_of : PlanState → Activity → List ℤ
places_of s a = floor_at s ∷ window_of s (served_by s a)

-- the same of the activity of this id
abbrev pub places_at : PlanState → ℕ → List ℤ
places_at s id = of_found (places_of s) (found s id)

abbrev pub shift_to : ℕ → ℕ → RepairMove
shift_to id start = Shift id start

abbrev pub shifts_of : PlanState → Activity → List RepairMove
shifts_of s a = flat_map (starting s (shift_to a.id)) (places_of s a)

-- the root above an activity, if it is not one itself
abbrev pub above_it : PlanState → Activity → Option Activity
above_it s a = by_parent a.parent
  where
    by_parent : Option (ℕ × ℕ) → Option Activity
    by_parent None = None
    by_parent (Some p) = found s (root_of a.id s.plan.activities)

abbrev pub delete_root : PlanState → Activity → List RepairMove
delete_root s a = Delete (root_of a.id s.plan.activities) ∷ []

-- its shifts, then those of its root where it is none, then that the root goes
unfoldable pub moves_of : PlanState → Activity → List RepairMove
moves_of s a = shifts_of s a ++ of_found (shifts_of s) (above_it s a) ++ delete_root s a

-- ---- help by other activities

-- the first four kinds, by number, that the test holds of
abbrev pub helpers : PlanState → (Reservation → Bool) → List (ℕ × Kind)
helpers s test = take 4 (filter (λ k. list_any test (reservations_in (Some k.1))) (numbered 0 s.model.kinds))

abbrev pub adds_of : PlanState → List ℤ → ℕ → List RepairMove
adds_of s starts kind = flat_map (starting s (λ start. Add kind start None)) starts

-- an activity more of each of these kinds, from the floor up to a moment
abbrev pub help_until : PlanState → List (ℕ × Kind) → ℕ → List RepairMove
help_until s kinds m = flat_map (λ k. adds_of s (spread (floor_at s) (int_max (floor_at s) (int_min (pos m) (last_of s)))) k.0) kinds
