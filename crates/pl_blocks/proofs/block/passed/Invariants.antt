-- what the loop has come past
use Rattle.std.proofs.Common.{◌≡◌, ◌≤◌, ◌+◌, take, drop, true}
use Rattle.pl_points.specs.Points.{AreNear}
use Rattle.pl_blocks.specs.Blocks.{change_of, is_past}
use Rattle.pl_blocks.proofs.block.passed.Given as goal

abbrev pub invariant-loop-place : goal.invariant-loop-place
invariant-loop-place g l = record {
  sum : l.sum ≡ change_of (take l.place l.points);
  past : is_past l.at (take l.place l.points) ≡ true;
  near : AreNear l.sum (drop l.place l.points);
  more : l.fn.steps ≤ l.steps;
  few : l.steps ≤ l.fn.steps + l.place;
}
