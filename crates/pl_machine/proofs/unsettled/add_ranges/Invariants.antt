-- what comes of the other activities
use Rattle.std.proofs.Common.{◌≡◌, ◌++◌, drop}
use Rattle.pl_plan.specs.Activities.{RiseFrom}
use Rattle.pl_machine.specs.IdRanges.{ranges_from}
use Rattle.pl_machine.proofs.unsettled.add_ranges.Given as goal

abbrev pub invariant-loop-activity : goal.invariant-loop-activity
invariant-loop-activity l = record {
  rising : RiseFrom l.last.to (drop l.activity-index l.activities);
  whole : l.ranges.items ++ ranges_from l.period.moment l.period.committed l.last (drop l.activity-index l.activities)
      ≡ l.initial.ranges.items ++ ranges_from l.period.moment l.period.committed (record { from = l.from; to = l.from }) l.activities;
}
