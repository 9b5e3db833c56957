-- the board is as it was, and so many of the moves were looked at
use Rattle.std.proofs.Common.{◌≡◌, ◌-◌, ◌≤◌, length}
use Rattle.pl_search.proofs.tries.Tries.look_at_each.Given as goal

abbrev pub invariant-runs : goal.invariant-runs
invariant-runs l = record {
  same : l.board ≡ l.fn.board;
  few : l.number ≤ length l.fresh;
}

abbrev pub decreases-runs : goal.decreases-runs
decreases-runs l = length l.fresh - l.number
