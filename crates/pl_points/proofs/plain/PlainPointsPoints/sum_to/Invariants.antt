-- the rest gives the whole
use Rattle.std.proofs.Common.{◌≡◌, ◌<◌, ◌≤◌, ◌+◌, drop, length, ◌+ℤ◌}
use Rattle.pl_points.specs.Points.{sum_to, SmallFrom, points_from}
use Rattle.pl_points.proofs.plain.PlainPointsPoints.sum_to.Given as goal

abbrev pub invariant-loop-point : goal.invariant-loop-point
invariant-loop-point g l = record {
  rest : l.sum +ℤ sum_to (drop l.point-index l.point-items) l.at ≡ sum_to l.point-items l.at;
  small : SmallFrom l.sum (drop l.point-index l.point-items);
  more : l.fn.steps < l.steps;
  few : l.steps ≤ l.fn.steps + 1 + l.point-index;
  passed : points_from l.point-items l.at + l.point-index ≤ length l.point-items + 1;
}
