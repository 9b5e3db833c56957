-- the numbers of those up to this move, what is known of runs, and the timelines that are looked at
use Rattle.std.specs.Prelude.{All, take}
use Rattle.pl_bounds.specs.Bounds.{AreLeastBesideStates}
use Rattle.pl_bounds.specs.Known.{IsRunOf}
use Rattle.pl_bounds.specs.Sides.{IsOutsideOf, AreDifferent}
use Rattle.pl_bounds.proofs.bounds.bounds_of_each.Given as goal

abbrev pub invariant-moves : goal.invariant-moves
invariant-moves l = record {
  least : AreLeastBesideStates l.board.state (take l.mv-index l.moves) l.bounds.items;
  runs : All (IsRunOf l.board.state) l.runs.items;
  of_plan : All (IsOutsideOf l.board.state) l.past.items;
  different : AreDifferent l.past.items;
}
