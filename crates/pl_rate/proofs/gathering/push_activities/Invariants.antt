use Rattle.std.proofs.Common.{drop}
use Rattle.pl_rate.specs.Hinges.{activity_gain, seen}
use Rattle.pl_rate.proofs.Gained.{Leaves}
use Rattle.pl_rate.proofs.gathering.push_activities.Given as goal

-- what was put, and what the other activities are still to add
abbrev pub invariant-loop-activity : goal.invariant-loop-activity
invariant-loop-activity l = Leaves (activity_gain (seen l.model l.plan l.bases 0) l.rates) l.initial.hinges.items l.hinges.items l.activity-items (drop l.activity-index l.activity-items)
