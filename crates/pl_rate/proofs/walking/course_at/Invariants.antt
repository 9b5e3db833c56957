use Rattle.std.proofs.Common.{length, ◌-◌, ◌≤◌}
use Rattle.pl_rate.specs.Courses.{HasCome}
use Rattle.pl_rate.proofs.walking.course_at.Given as goal

-- what was come to, and what is left, give the whole
abbrev pub invariant-hinges : goal.invariant-hinges
invariant-hinges l = HasCome l.first l.hinges l.index l.course × (l.course.at ≤ l.from)

abbrev pub decreases-hinges : goal.decreases-hinges
decreases-hinges l = length l.hinges - l.index
