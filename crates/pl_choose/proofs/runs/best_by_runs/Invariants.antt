-- the best so far and those that are left lead to the best of all
use Rattle.std.proofs.Common.{◌≡◌, length}
use Rattle.std.specs.Prelude.{All}
use Rattle.pl_semantics.specs.Legal.{left_after}
use Rattle.pl_bounds.specs.Bounds.{AreLeastBesideStates}
use Rattle.pl_choose.specs.Found.{IsAllowed}
use Rattle.pl_choose.specs.Tried.{best_of}
use Rattle.pl_choose.proofs.runs.best_by_runs.Given as goal

abbrev pub invariant-runs : goal.invariant-runs
invariant-runs l = record {
  same : l.board ≡ l.fn.board;
  allowed : All (IsAllowed l.fn.board.state) l.hopes.moves.items;
  beside : AreLeastBesideStates l.fn.board.state l.hopes.moves.items l.hopes.bounds.items;
  count : length l.hopes.bounds.items ≡ length l.hopes.moves.items;
  leads : best_of (left_after l.fn.board.state) l.best l.hopes.moves.items ≡ best_of (left_after l.fn.board.state) l.fn.first l.moves;
}

abbrev pub decreases-runs : goal.decreases-runs
decreases-runs l = length l.hopes.moves.items
