-- What is picked of some moves if it leaves few enough conflicts.
use Rattle.std.specs.Prelude.{◌≡◌, ℕ, nat_lt, Bool, true, List, Option, Some, None}
use Rattle.pl_plan.specs.declared.repair.RepairMove.{RepairMove}
use Rattle.pl_semantics.specs.declared.plan_state.PlanState.{PlanState}
use Rattle.pl_semantics.specs.Legal.{left_after}
use Rattle.pl_board.specs.Boards.{Standing}
use Rattle.pl_choose.specs.declared.picked.Picked.{Picked}
use Rattle.pl_choose.specs.declared.purpose.Purpose.{Purpose}
use Rattle.pl_choose.specs.Picked.{IsPicked}
use Rattle.pl_choose.specs.Picks.{fewest}

-- whether so many conflicts are below this number; any are, if no number is given
abbrev pub is_below : Option ℕ → ℕ → Bool
is_below None left = true
is_below (Some fewer) left = nat_lt left fewer

-- the first of the moves that leaves the fewest conflicts, and these are below the number
abbrev pub IsFewestBelow : PlanState → List RepairMove → Option ℕ → RepairMove → Type 0
IsFewestBelow s moves fewer m = (fewest s moves ≡ Some m) × (is_below fewer (left_after s m) ≡ true)

-- Given: what a move is chosen for, what holds of the chosen move, the board before, the choice, and the board then. If nothing is
-- chosen, the board is as it was.
abbrev pub IsPickedIf : Purpose → (RepairMove → Type 0) → Standing → Option Picked → Standing → Type 0
IsPickedIf why P before None now = now ≡ before
IsPickedIf why P before (Some p) now = IsPicked why P before p now
