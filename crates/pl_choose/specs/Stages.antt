-- Moves that are made one in place of another.
use Rattle.std.specs.Prelude.{◌≡◌, ℕ, ◌≤◌, List, All}
use Rattle.pl_plan.specs.declared.repair.RepairMove.{RepairMove}
use Rattle.pl_semantics.specs.declared.plan_state.PlanState.{PlanState}
use Rattle.pl_semantics.specs.Whole.{IsIdBelow}
use Rattle.pl_update.specs.Changes.Replaced.{CanReplace, next_after, with_plan}
use Rattle.pl_moves.specs.Attempts.{IsTrial}
use Rattle.pl_choose.specs.declared.stages.Stage.{Stage}

abbrev pub move_of : Stage → RepairMove
move_of t = t.mv

-- the trial is what the move changes of the plan state, and how that is undone
abbrev pub IsStage : PlanState → Stage → Type 0
IsStage s t = IsTrial s t.mv t.trial

-- the activities that it takes out
abbrev pub TakesOut : List ℕ → Stage → Type 0
TakesOut gone t = t.trial.change.gone.items ≡ gone

-- the next number for an activity after its move, given the one before it
abbrev pub next_behind : ℕ → Stage → ℕ
next_behind next t = next_after next t.trial.change.placed.items

-- what the one that is made has placed goes out again, and what the other one places comes
abbrev pub instead : PlanState → Stage → Stage → PlanState
instead s made other = with_plan made.trial.undo.gone.items other.trial.change.placed.items s

-- The other one can be made in place of the one that is made, given the next number for an activity before both.
pub record CanStandInstead (s : PlanState) (next : ℕ) (made other : Stage) : Type 0 where
  pub can : CanReplace s made.trial.undo.gone.items other.trial.change.placed.items
  -- the next number after it is above the id of each live activity
  pub least : (1 ≤ next_behind next other) × All (IsIdBelow (next_behind next other)) (instead s made other).plan.activities
  pub most : next_behind next other ≤ (instead s made other).next_id
