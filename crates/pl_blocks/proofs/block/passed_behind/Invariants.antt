-- the points from `count` on do not lie before the moment
use Rattle.std.proofs.Common.{◌≡◌, ◌<◌, ◌≤◌, ◌+◌, ℕ, length, take, get_or, pos, false}
use Rattle.pl_points.specs.Points.{is_before}
use Rattle.pl_blocks.specs.Blocks.{change_of}
use Rattle.pl_blocks.proofs.block.passed_behind.Given as goal

abbrev pub invariant-behind : goal.invariant-behind
invariant-behind g l = record {
  some : l.middle < l.count;
  bound : l.count ≤ length l.points;
  sum : l.sum ≡ change_of (take l.count l.points);
  rest : (k : ℕ) → l.count ≤ k → k < length l.points → is_before l.at (get_or l.points k (0, pos 0)) ≡ false;
  more : l.fn.steps ≤ l.steps;
  few : l.steps + l.count ≤ l.fn.steps + 1 + length l.points;
}

abbrev pub decreases-behind : goal.decreases-behind
decreases-behind g l = l.count
