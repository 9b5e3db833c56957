use Rattle.std.proofs.Common.{◌≤◌, ◌+◌, ◌-◌, length}
use Rattle.pl_blocks.specs.Blocks.{AreSums}
use Rattle.pl_blocks.proofs.summary.summary_of.Given as goal

abbrev pub invariant-behind : goal.invariant-behind
invariant-behind g l = record {
  sums : AreSums l.points l.sums.count l.sums.sum l.sums.least l.sums.greatest;
  more : l.fn.steps ≤ l.steps;
  few : l.steps + l.fn.early.count ≤ l.fn.steps + l.sums.count;
}

abbrev pub decreases-behind : goal.decreases-behind
decreases-behind g l = length l.points - l.sums.count
