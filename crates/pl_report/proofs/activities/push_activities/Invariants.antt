use Rattle.std.proofs.Common.{◌≡◌, ◌++◌, take}
use Rattle.std.specs.List.{flat_map}
use Rattle.pl_report.specs.Reports.{activity_line}
use Rattle.pl_report.proofs.activities.push_activities.Given as goal

-- the lines of the activities so far
abbrev pub invariant-loop-activity : goal.invariant-loop-activity
invariant-loop-activity l = l.text.items ≡ l.initial.text.items ++ flat_map (activity_line l.state) (take l.activity-index l.activities)
