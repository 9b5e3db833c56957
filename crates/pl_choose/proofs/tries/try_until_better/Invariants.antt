-- the best so far, of so many of them
use Rattle.std.proofs.Common.{◌≡◌, ◌<◌, ◌≤◌, ◌-◌, length, take}
use Rattle.pl_semantics.specs.Legal.{left_after}
use Rattle.pl_choose.specs.Tried.{best_of}
use Rattle.pl_choose.proofs.tries.try_until_better.Given as goal

abbrev pub invariant-runs : goal.invariant-runs
invariant-runs l = record {
  same : l.board ≡ l.fn.board;
  best : l.tried.best ≡ best_of (left_after l.fn.board.state) l.best (take l.tried.count l.moves);
  tried : 0 < l.tried.count;
  few : l.tried.count ≤ length l.moves;
}

abbrev pub decreases-runs : goal.decreases-runs
decreases-runs l = length l.moves - l.tried.count
