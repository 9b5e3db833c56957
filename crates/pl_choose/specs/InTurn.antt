-- Moves that are tried in turn, each in place of the one before.
use Rattle.std.specs.Prelude.{◌≡◌, ◌<◌, List, [], ◌∷◌, ℕ, length, slice_get, slice_index_or, Option, Some, None}
use Rattle.pl_plan.specs.declared.repair.RepairMove.{RepairMove}
use Rattle.pl_semantics.specs.declared.plan_state.PlanState.{PlanState}
use Rattle.pl_semantics.specs.Moves.{applied}
use Rattle.pl_semantics.specs.Legal.{left_after}
use Rattle.pl_board.specs.Boards.{Standing, after}
use Rattle.pl_choose.specs.declared.stages.Stage.{Stage}
use Rattle.pl_choose.specs.declared.in_turn.Progress.{Progress}
use Rattle.pl_choose.specs.declared.in_turn.Turn.{Turn}
use Rattle.pl_choose.specs.declared.in_turn.Turn.TheVariants.{Made, Found}
use Rattle.pl_choose.specs.declared.picked.Picked.TheVariants as picked
use Rattle.pl_choose.specs.declared.purpose.Purpose.{Purpose}
use Rattle.pl_choose.specs.Picked.{IsPicked}
use Rattle.pl_choose.specs.Picks.{fewest}

-- what the first one takes out
abbrev pub gone_in : List Stage → List ℕ
gone_in [] = []
gone_in (t ∷ more) = t.trial.change.gone.items

-- All that is needed of these moves has been tried: one of them is made, and the best so far is the first of all that leaves the
-- fewest conflicts.
pub record AreTried (s : PlanState) (moves : List RepairMove) (t : Progress) (now : Standing) : Type 0 where
  pub within : t.at < length moves
  pub made : (d : RepairMove) → now ≡ after (applied s (slice_index_or moves t.at d))
  pub reached : t.place < length moves
  pub there : (d : RepairMove) → slice_index_or moves t.place d ≡ t.best.mv
  pub best : fewest s moves ≡ Some t.best.mv
  pub left : t.best.left ≡ left_after s t.best.mv

-- Given: what a move is chosen for, what holds of the chosen move, the board before, the moves with what each changes, the best of them
-- if it is taken, and the board then. If none is taken, the board is as it was.
abbrev pub IsTurnIf : Purpose → (RepairMove → Type 0) → Standing → List Stage → Option Turn → Standing → Type 0
IsTurnIf why P before stages None now = now ≡ before
IsTurnIf why P before stages (Some (Made place)) now = (place < length stages) × ((t : Stage) → slice_get stages place ≡ Some t → IsPicked why P before (picked.Made t.mv (Some t.trial)) now)
IsTurnIf why P before stages (Some (Found m)) now = IsPicked why P before (picked.Found m) now
