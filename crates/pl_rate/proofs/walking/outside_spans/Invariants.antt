use Rattle.std.proofs.Common.{length, ◌-◌, ◌≤◌}
use Rattle.pl_rate.specs.Courses.{HasCome}
use Rattle.pl_rate.proofs.Courses.{HasSpans}
use Rattle.pl_rate.proofs.walking.outside_spans.Given as goal

-- what was come to, and what is left, give the whole
abbrev pub invariant-hinges : goal.invariant-hinges
invariant-hinges l = HasCome l.first l.hinges l.index l.course × HasSpans l.limit l.first l.hinges l.fn.begin.0.at l.course.at l.spans.items × (l.course.at ≤ l.to)

abbrev pub decreases-hinges : goal.decreases-hinges
decreases-hinges l = length l.hinges - l.index
