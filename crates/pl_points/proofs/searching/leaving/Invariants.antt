-- the rest gives the whole
use Rattle.std.proofs.Common.{◌≡◌, ◌≤◌, ◌+◌, drop}
use Rattle.pl_points.specs.Points.{leaving, SmallFrom}
use Rattle.pl_points.proofs.searching.leaving.Given as goal

abbrev pub invariant-loop-place : goal.invariant-loop-place
invariant-loop-place g l = record {
  rest : leaving l.least l.most l.sum (drop l.place l.points) ≡ leaving l.least l.most l.fn.before l.points;
  small : SmallFrom l.sum (drop l.place l.points);
  more : l.fn.steps ≤ l.steps;
  few : l.steps ≤ l.fn.steps + l.place;
}
