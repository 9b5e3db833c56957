-- The moves that better a plan, and the best of them.
use Rattle.std.specs.Prelude.{◌≡◌, ◌==◌, ◌&&◌, not, Bool, true, ℤ, int_lt, ◌<ℤ◌, ◌≤ℤ◌, List, [], ◌∷◌, ◌++◌, All, filter, take, Option, Some, None}
use Rattle.std.specs.List.{flat_map}
use Rattle.pl_plan.specs.declared.activity.Activity.{Activity}
use Rattle.pl_plan.specs.declared.repair.RepairMove.{RepairMove}
use Rattle.pl_semantics.specs.declared.plan_state.PlanState.{PlanState}
use Rattle.pl_semantics.specs.PlanStates.{is_committed}
use Rattle.pl_semantics.specs.Starts.{shifts_of}
use Rattle.pl_semantics.specs.Repairs.{all_assigns}
use Rattle.pl_semantics.specs.Moves.{is_proper, applied}
use Rattle.pl_semantics.specs.Legal.{is_legal, left_after}
use Rattle.pl_moves.specs.Changes.{IsOfActivities}
use Rattle.pl_prefs.specs.declared.prefer.Prefer.{Prefer}
use Rattle.pl_prefs.specs.Scores.{score}

-- ---- the moves that are tried

-- the first 256, by id, of the activities that are not committed
abbrev pub movable : PlanState → List Activity
movable s = take 256 (filter (λ a. not (is_committed s a)) s.plan.activities)

-- Shifts of one activity to each of its starts to try, then assignments to each of its free parameters in order. A start outside 1
-- to one before the horizon is left out: a shift there would be refused.
abbrev pub changes_of : PlanState → Activity → List RepairMove
changes_of s a = shifts_of s a ++ all_assigns s a

unfoldable pub changes_in : PlanState → List RepairMove
changes_in s = flat_map (changes_of s) (movable s)

-- a change of activities that makes sense, as each one that is tried does
abbrev pub IsProperChange : PlanState → RepairMove → Type 0
IsProperChange s m = (is_proper s m ≡ true) × IsOfActivities m

abbrev pub AreProperChanges : PlanState → List RepairMove → Type 0
AreProperChanges s moves = All (IsProperChange s) moves

-- ---- those that better the plan

abbrev pub score_after : PlanState → List Prefer → RepairMove → ℤ
score_after s prefers m = score (applied s m) prefers

-- nothing refuses it, and it leaves no conflict
abbrev pub is_clear : PlanState → RepairMove → Bool
is_clear s m = is_legal s m && (left_after s m == 0)

-- and the score rises
abbrev pub is_better : PlanState → List Prefer → RepairMove → Bool
is_better s prefers m = is_clear s m && int_lt (score s prefers) (score_after s prefers m)

unfoldable pub better : PlanState → List Prefer → List RepairMove
better s prefers = filter (is_better s prefers) (changes_in s)

-- ---- the best of them

-- One of some moves with the greatest worth, and the first of these: each one before it is worth less, each one behind it no more.
pub record IsFirstBest (worth : RepairMove → ℤ) (moves : List RepairMove) (m : RepairMove) : Type 0 where
  pub before : List RepairMove
  pub behind : List RepairMove
  pub split : moves ≡ before ++ m ∷ behind
  pub less : All (λ n. worth n <ℤ worth m) before
  pub no_more : All (λ n. worth n ≤ℤ worth m) behind

-- none exactly where there are no moves
abbrev pub IsBestOf : (RepairMove → ℤ) → List RepairMove → Option RepairMove → Type 0
IsBestOf worth moves None = moves ≡ []
IsBestOf worth moves (Some m) = IsFirstBest worth moves m

-- the move that betters a plan the most, the first among equals; none where no move betters it
abbrev pub IsBest : PlanState → List Prefer → Option RepairMove → Type 0
IsBest s prefers m = IsBestOf (score_after s prefers) (better s prefers) m
