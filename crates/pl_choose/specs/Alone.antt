-- A move that is tried alone, and stays made where it leaves few enough conflicts.
use Rattle.std.specs.Prelude.{◌≡◌, ℕ, ◌≤◌, ◌<◌, ◌^◌, Option, Some, None}
use Rattle.pl_plan.specs.declared.repair.RepairMove.{RepairMove}
use Rattle.pl_semantics.specs.Moves.{applied}
use Rattle.pl_semantics.specs.Legal.{left_after}
use Rattle.pl_board.specs.Boards.{Standing, after}
use Rattle.pl_moves.specs.Attempts.{IsToldOf}
use Rattle.pl_choose.specs.declared.alone.Alone.{Alone}
use Rattle.pl_choose.specs.declared.alone.Alone.TheVariants.{Made, Undone}

-- no more conflicts are left than are enough; if no number is given, none are few enough
abbrev pub AreEnough : Option ℕ → ℕ → Type 0
AreEnough None left = ⊥
AreEnough (Some most) left = left ≤ most

-- given the move, how many conflicts are enough, the board before, what came of the move, and the board then
abbrev pub IsTriedAlone : RepairMove → Option ℕ → Standing → Alone → Standing → Type 0
IsTriedAlone m enough before (Made told) now = AreEnough enough (left_after before.state m) × (now ≡ after (applied before.state m)) × IsToldOf before.state m told
IsTriedAlone m enough before (Undone left) now = (left ≡ left_after before.state m) × (left < 2 ^ 63) × (now ≡ before)
