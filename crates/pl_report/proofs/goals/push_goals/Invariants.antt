use Rattle.std.proofs.Common.{◌≡◌, ◌++◌, take}
use Rattle.std.specs.List.{flat_map}
use Rattle.pl_report.specs.Reports.{goal_line}
use Rattle.pl_report.proofs.goals.push_goals.Given as goal

-- the lines of the goals so far
abbrev pub invariant-loop-goal : goal.invariant-loop-goal
invariant-loop-goal l = l.text.items ≡ l.initial.text.items ++ flat_map (goal_line l.state) (take l.goal-index l.goals)
