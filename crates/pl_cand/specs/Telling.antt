-- What is known of a move without a list of all moves that are tried.
use Rattle.std.specs.Prelude.{◌≡◌, ◌≤◌, ◌==◌, ◌+◌, ℕ, nat_lt, nat_le, Bool, true, false, ◌&&◌, ◌||◌, ℤ, pos, List, [], ◌++◌, length, filter, take, Some, if◌then◌else◌}
use Rattle.std.specs.Int.{int_min, int_max}
use Rattle.std.specs.Ordering.{int_eq}
use Rattle.std.specs.List.{flat_map, list_any}
use Rattle.pl_facts.specs.declared.goal.Goal.{Goal}
use Rattle.pl_plan.specs.declared.activity.Activity.{Activity}
use Rattle.pl_plan.specs.declared.repair.RepairMove.{RepairMove}
use Rattle.pl_plan.specs.declared.repair.RepairMove.TheVariants.{Add, Delete, Detail, Shift, Drop}
use Rattle.pl_plan.specs.Trees.{root_of}
use Rattle.pl_semantics.specs.declared.plan_state.PlanState.{PlanState}
use Rattle.pl_semantics.specs.PlanStates.{of_found}
use Rattle.pl_semantics.specs.Starts.{above_it, floor_at, last_of, moves_of, places_of, shifts_of, spread}
use Rattle.pl_semantics.specs.LineRepairs.{around}
use Rattle.pl_semantics.specs.Moves.{alternatives_at}
use Rattle.pl_semantics.specs.Candidates.{same_move, same_number}
use Rattle.pl_cand.specs.Tests.{is_user}
use Rattle.pl_cand.specs.declared.role.Role.{Role}
use Rattle.pl_cand.specs.declared.role.Role.TheVariants as role
use Rattle.pl_cand.specs.declared.told.Told.{Told}
use Rattle.pl_cand.specs.declared.told.Told.TheVariants as told

-- ---- what is known

-- the move is one of the first 256 of these, or it is none of them, or nothing is known
abbrev pub Tells : List RepairMove → RepairMove → Told → Type 0
Tells tried m told.Early = list_any (same_move m) (take 256 tried) ≡ true
Tells tried m told.Untried = list_any (same_move m) tried ≡ false
Tells tried m told.Unknown = Unit {0}

-- what is known of a move that stands among the first so many
abbrev pub told_within : ℕ → Told
told_within most = if nat_le most 256 then told.Early else told.Unknown

-- ---- the users of a timeline

-- the first eight that are not committed and play the role
abbrev pub players_of : PlanState → ℕ → Role → List Activity
players_of s line part = take 8 (filter (is_user s line part) s.plan.activities)

-- the shifts of a user of a capacity out of the span
abbrev pub away : PlanState → Role → Activity → List RepairMove
away s (role.Uses a b) x = around s a b x
away s (role.ChangesBelow b w) x = []

-- Some users were looked at (`done`), and none of their moves is this one, nor is any that helps. At most `most` moves stand before
-- those of the users that are left (`rest`). `t` is what is then known of the move among the moves of all users.
abbrev pub TellsRest : PlanState → Role → RepairMove → ℕ → List Activity → Told → Type 0
TellsRest s part m most rest t = (help : List RepairMove) (done : List Activity)
    → length help + (length (flat_map (away s part) (done ++ rest)) + length (flat_map (moves_of s) done)) ≤ most
    → list_any (same_move m) (help ++ (flat_map (away s part) done ++ flat_map (moves_of s) done)) ≡ false
    → Tells (help ++ (flat_map (away s part) (done ++ rest) ++ flat_map (moves_of s) (done ++ rest))) m t

-- ---- which moves there are

-- from 1 to the last moment before the horizon
abbrev pub may_start : PlanState → ℕ → Bool
may_start s start = nat_le 1 start && nat_lt start s.model.horizon

-- a shift of this activity to a start that is tried for it
abbrev pub is_shift_of : PlanState → Activity → ℕ → ℕ → Bool
is_shift_of s a id start = ((id == a.id) && may_start s start) && list_any (int_eq (pos start)) (places_of s a)

-- a shift of the activity or of the root above it, or the deletion of its root
abbrev pub is_move_of : PlanState → Activity → RepairMove → Bool
is_move_of s a (Shift id start) = is_shift_of s a id start || list_any (same_move (Shift id start)) (of_found (shifts_of s) (above_it s a))
is_move_of s a (Delete id) = id == root_of a.id s.plan.activities
is_move_of s a _ = false

-- an activity that serves the goal, with a start that is tried, or the drop of the goal
abbrev pub is_for_goal : PlanState → Goal → RepairMove → Bool
is_for_goal s g (Add kind start goal) = (((kind == g.kind) && same_number goal (Some g.number)) && may_start s start) && list_any (int_eq (pos start)) (spread (int_max (pos g.earliest) (floor_at s)) (int_min (pos g.latest) (last_of s)))
is_for_goal s g (Drop number) = number == g.number
is_for_goal s g _ = false

-- a shift of this activity
abbrev pub is_shift_of_id : ℕ → RepairMove → Bool
is_shift_of_id a (Shift id start) = id == a
is_shift_of_id a _ = false

-- the shift of this activity to this start
abbrev pub is_shift_to : PlanState → ℕ → ℤ → RepairMove → Bool
is_shift_to s a to (Shift id start) = ((id == a) && may_start s start) && int_eq (pos start) to
is_shift_to s a to _ = false

-- one of the alternatives of the activity, or the deletion of its root
abbrev pub is_for_undetailed : PlanState → Activity → RepairMove → Bool
is_for_undetailed s a (Detail id alternative) = (id == a.id) && nat_lt alternative (length (alternatives_at s a))
is_for_undetailed s a (Delete id) = id == root_of a.id s.plan.activities
is_for_undetailed s a _ = false

abbrev pub is_addition : RepairMove → Bool
is_addition (Add kind start goal) = true
is_addition _ = false
