use Rattle.std.proofs.Common.{◌≤◌, ◌+◌, ◌-◌, length}
use Rattle.pl_blocks.specs.Blocks.{AreSums}
use Rattle.pl_blocks.proofs.summary.sums_up_to.Given as goal

abbrev pub invariant-further : goal.invariant-further
invariant-further g l = record {
  sums : AreSums l.points l.sums.count l.sums.sum l.sums.least l.sums.greatest;
  more : l.fn.steps ≤ l.steps;
  few : l.steps + l.fn.early.count ≤ l.fn.steps + l.sums.count;
}

abbrev pub decreases-further : goal.decreases-further
decreases-further g l = length l.points - l.sums.count
