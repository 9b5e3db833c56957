-- A choice that was made on a board before its move was made there.
use Rattle.std.specs.Prelude.{◌≡◌, List, All, Option, Some, IfSome}
use Rattle.pl_plan.specs.declared.repair.RepairMove.{RepairMove}
use Rattle.pl_semantics.specs.declared.plan_state.PlanState.{PlanState}
use Rattle.pl_semantics.specs.Moves.{applied}
use Rattle.pl_moves.specs.Attempts.{IsTrial}
use Rattle.pl_moves.specs.declared.trial.Trial.{Trial}
use Rattle.pl_choose.specs.Found.{IsAllowed}
use Rattle.pl_choose.specs.Picks.{fewest}

-- In the state before, the move was the first of these that leaves the fewest conflicts. It was made there, and the trial tells how it is
-- undone.
pub record WasChosen (s : PlanState) (moves : List RepairMove) (m : RepairMove) (t : Trial) : Type 0 where
  pub before : PlanState
  pub allowed : All (IsAllowed before) moves
  pub best : fewest before moves ≡ Some m
  pub made : s ≡ applied before m
  pub trial : IsTrial before m t

abbrev pub WasChosenIfTold : PlanState → List RepairMove → RepairMove → Option Trial → Type 0
WasChosenIfTold s moves m told = IfSome told (WasChosen s moves m)
