-- What came of trying the aim.
use Rattle.std.specs.Prelude.{◌≡◌, ◌≤◌, List, drop, length}
use Rattle.pl_plan.specs.declared.repair.RepairMove.{RepairMove}
use Rattle.pl_semantics.specs.Moves.{applied}
use Rattle.pl_semantics.specs.Legal.{left_after}
use Rattle.pl_board.specs.Boards.{Standing, after}
use Rattle.pl_moves.specs.Attempts.{IsToldOf}
use Rattle.pl_choose.specs.declared.aiming.Aimed.{Aimed}
use Rattle.pl_choose.specs.declared.aiming.Aimed.TheVariants.{Made, Passed}
use Rattle.pl_choose.specs.declared.best.Best.{Best}
use Rattle.pl_choose.specs.declared.purpose.Purpose.{Purpose}
use Rattle.pl_choose.specs.declared.purpose.Purpose.TheVariants.{Mend}
use Rattle.pl_choose.specs.Tried.{best_of}

-- Given: what a move is chosen for, the best so far, the moves that may be better, the board before, what came of the aim, and the
-- board then. Either the aim is the best of all: then it stays made, and what undoes it is told. Or some moves were tried from the front,
-- and the best of these and the rest is the best of all.
abbrev pub IsAimed : Purpose → Best → List RepairMove → Standing → Aimed → Standing → Type 0
IsAimed why b moves before (Made m told) now = (why ≡ Mend) × (m ≡ (best_of (left_after before.state) b moves).mv) × (now ≡ after (applied before.state m)) × IsToldOf before.state m told
IsAimed why b moves before (Passed t) now = (best_of (left_after before.state) t.best (drop t.count moves) ≡ best_of (left_after before.state) b moves) × (t.count ≤ length moves) × (now ≡ before)
