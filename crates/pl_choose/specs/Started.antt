-- What came of trying the first of some moves.
use Rattle.std.specs.Prelude.{◌≡◌, ℕ, ◌≤◌}
use Rattle.pl_plan.specs.declared.repair.RepairMove.{RepairMove}
use Rattle.pl_semantics.specs.Legal.{left_after}
use Rattle.pl_board.specs.Boards.{Standing}
use Rattle.pl_choose.specs.declared.fewest.Started.{Started}
use Rattle.pl_choose.specs.declared.fewest.Started.TheVariants.{Decided, Open}
use Rattle.pl_choose.specs.declared.purpose.Purpose.{Purpose}
use Rattle.pl_choose.specs.Picked.{IsPicked}

-- Given: what a move is chosen for, the first move, a number of conflicts that each of the others leaves at least, the board
-- before, what came of the first move, and the board then.
abbrev pub IsStarted : Purpose → RepairMove → ℕ → Standing → Started → Standing → Type 0
IsStarted why m least before (Decided p) now = (left_after before.state m ≤ least) × IsPicked why (λ x. x ≡ m) before p now
IsStarted why m least before (Open b) now = (b.mv ≡ m) × (b.left ≡ left_after before.state m) × (now ≡ before)
