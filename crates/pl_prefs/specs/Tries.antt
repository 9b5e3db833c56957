-- A move that is tried: it is made only where it is clear.
use Rattle.std.specs.Prelude.{◌≡◌, Bool, true, false}
use Rattle.pl_plan.specs.declared.repair.RepairMove.{RepairMove}
use Rattle.pl_semantics.specs.Moves.{applied}
use Rattle.pl_board.specs.Boards.{Standing, after}
use Rattle.pl_prefs.specs.Betters.{is_clear}

-- whether it was made, the board before, and the board then: one that is not clear leaves the board as it was
abbrev pub IsTried : RepairMove → Bool → Standing → Standing → Type 0
IsTried m true before now = (is_clear before.state m ≡ true) × (now ≡ after (applied before.state m))
IsTried m false before now = (is_clear before.state m ≡ false) × (now ≡ before)
