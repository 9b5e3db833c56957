-- what lies before the moment that the loop has come to
use Rattle.std.proofs.Common.{◌≡◌, ℕ, ◌≤◌, ◌<◌, ◌-◌, ◌+◌, ◌||◌, ◌&&◌}
use Rattle.pl_points.specs.Points.{sum_to, ArePoints}
use Rattle.pl_points.specs.Spans.{AreApart, covers, within}
use Rattle.pl_points.specs.Limits.{is_outside}
use Rattle.pl_points.specs.Counting.{walk_left, walk_until, goes_outside}
use Rattle.pl_points.proofs.pieces.push_outside.Given as goal

abbrev pub invariant-pieces : goal.invariant-pieces
invariant-pieces g l =
    let ps = g.P.Points.points l.points in
    let all = l.fn.steps + walk_until (g.P.Points.ahead l.points) g.P.Points.look_steps g.P.Points.search_steps (goes_outside l.limit ps) ps l.fn.mark.at l.to in
    record {
      low : l.fn.mark.at ≤ l.at;
      high : l.at ≤ l.to;
      sum : l.at < l.to → l.sum ≡ sum_to ps l.at;
      sound : ArePoints ps;
      falls : (a b : ℕ) → a ≤ b → g.P.Points.ahead l.points b ≤ g.P.Points.ahead l.points a;
      apart : AreApart 0 l.at l.spans.items;
      covers : (t : ℕ) → covers l.spans.items t ≡ (covers l.fn.spans.items t || (within l.fn.mark.at l.at t && is_outside l.limit (sum_to ps t)));
      spent : l.steps ≤ all;
      left : l.at < l.to → l.steps + walk_left (g.P.Points.ahead l.points) g.P.Points.look_steps g.P.Points.search_steps (goes_outside l.limit ps) ps l.at ≤ all;
    }

abbrev pub decreases-pieces : goal.decreases-pieces
decreases-pieces g l = l.to - l.at
