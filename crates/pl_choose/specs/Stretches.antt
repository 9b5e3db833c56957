-- Starts between which a move is known to be legal.
use Rattle.std.specs.Prelude.{◌≡◌, ◌≤◌, Bool, true, ◌&&◌, nat_le}
use Rattle.pl_plan.specs.declared.repair.RepairMove.{RepairMove}
use Rattle.pl_semantics.specs.declared.plan_state.PlanState.{PlanState}
use Rattle.pl_semantics.specs.Legal.{is_legal}
use Rattle.pl_semantics.specs.Moves.{is_proper}
use Rattle.pl_moves.specs.Runs.{start_of, goes_on}
use Rattle.pl_choose.specs.declared.stretch.Stretch.{Stretch}

-- it makes sense, and places the same activities as the first one
abbrev pub is_kin : PlanState → RepairMove → RepairMove → Bool
is_kin s first m = is_proper s m && goes_on first m

-- it places the same activities as the stretch's move, with a start within the stretch
abbrev pub is_within : Stretch → RepairMove → Bool
is_within r m = goes_on r.of m && (nat_le r.from (start_of m) && nat_le (start_of m) r.to)

-- each move that places the same activities as the stretch's move, with a start within the stretch, is legal
abbrev pub IsStretch : PlanState → Stretch → Type 0
IsStretch s r = (m : RepairMove) → goes_on r.of m ≡ true → r.from ≤ start_of m → start_of m ≤ r.to → is_legal s m ≡ true
