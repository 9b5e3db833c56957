-- Moves that are made on a board to be looked at, and taken back.
use Rattle.std.specs.Prelude.{◌≡◌, ◌≤◌, false, All}
use Rattle.pl_plan.specs.declared.repair.RepairMove.{RepairMove}
use Rattle.pl_semantics.specs.declared.plan_state.PlanState.{PlanState}
use Rattle.pl_semantics.specs.Whole.{IsIdBelow}
use Rattle.pl_update.specs.Changes.Changes.{with_next}
use Rattle.pl_update.specs.Changes.Replaced.{CanReplace, with_plan}
use Rattle.pl_board.specs.Boards.{Standing}
use Rattle.pl_moves.specs.Changes.{IsOfActivities}
use Rattle.pl_moves.specs.Runs.{CanBeMade}
use Rattle.pl_search.specs.declared.undo.Undo.{Undo}

-- a move of activities that is proper and that nothing refuses, while there are ids
pub record MayBeMade (s : PlanState) (m : RepairMove) : Type 0 where
  pub can : CanBeMade s m
  pub activities : IsOfActivities m
  pub next : s.next_id ≤ 3999999000

-- what the change that takes a move back makes of a plan state
abbrev pub back_to : Undo → PlanState → PlanState
back_to u s = with_plan u.change.gone.items u.change.placed.items s

-- the same with the next id that there was
abbrev pub taken_back : Undo → PlanState → PlanState
taken_back u s = with_next u.next (back_to u s)

-- that change can be made, and the next id can be the next one again
pub record CanTakeBack (u : Undo) (s : PlanState) : Type 0 where
  pub can : CanReplace s u.change.gone.items u.change.placed.items
  pub ids : (1 ≤ u.next) × All (IsIdBelow u.next) (back_to u s).plan.activities
  pub next : u.next ≤ (back_to u s).next_id

-- The plan state before a move was made, what takes it back, and the board now.
pub record IsMadeForNow (before : PlanState) (u : Undo) (now : Standing) : Type 0 where
  pub unspoiled : now.spoiled ≡ false
  pub can : CanTakeBack u now.state
  pub back : taken_back u now.state ≡ before
