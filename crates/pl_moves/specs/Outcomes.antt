-- What comes of a move.
use Rattle.std.specs.Prelude.{◌≡◌, ℕ, true, min, Some, None}
use Rattle.pl_plan.specs.declared.repair.RepairMove.{RepairMove}
use Rattle.pl_semantics.specs.Moves.{refusal_of, applied}
use Rattle.pl_semantics.specs.Legal.{left_after}
use Rattle.pl_board.specs.Boards.{Standing, after}
use Rattle.pl_moves.specs.declared.move_fault.MoveFault.{MoveFault}
use Rattle.pl_moves.specs.declared.move_fault.MoveFault.TheVariants.{Refused, Memory}

-- Given the fault, the board before and the board then. If the move is refused, the fault is its reason, and nothing changes.
-- Memory is wanting only for a move that is not refused, and then the board is spoiled.
abbrev pub Fails : RepairMove → MoveFault → Standing → Standing → Type 0
Fails m (Refused r) before now = (refusal_of before.state m ≡ Some r) × (now ≡ before)
Fails m Memory before now = (refusal_of before.state m ≡ None) × (now.spoiled ≡ true)

-- the board has the plan state that the move makes
pub record IsMade (m : RepairMove) (before now : Standing) : Type 0 where
  pub allowed : refusal_of before.state m ≡ None
  pub made : now ≡ after (applied before.state m)

-- the number is how many conflicts would stand, and nothing changes
pub record IsCounted (m : RepairMove) (n : ℕ) (before now : Standing) : Type 0 where
  pub allowed : refusal_of before.state m ≡ None
  pub count : n ≡ min (left_after before.state m) 4294967295
  pub same : now ≡ before
