-- the numbers of those up to this move, and the timelines that are looked at
use Rattle.std.specs.Prelude.{All, take}
use Rattle.pl_bounds.specs.Bounds.{AreLeast}
use Rattle.pl_bounds.specs.Sides.{IsOutsideOf, AreDifferent}
use Rattle.pl_bounds.proofs.choices.least_of_choices.Given as goal

abbrev pub invariant-moves : goal.invariant-moves
invariant-moves l = record {
  least : AreLeast l.board.state (take l.mv-index l.moves) l.bounds.items;
  of_plan : All (IsOutsideOf l.board.state) l.past.items;
  different : AreDifferent l.past.items;
}
