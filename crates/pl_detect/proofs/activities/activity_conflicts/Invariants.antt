use Rattle.std.proofs.Common.{◌≡◌, ◌++◌, take}
use Rattle.std.specs.List.{flat_map}
use Rattle.pl_semantics.specs.Activities.{wrong_at}
use Rattle.pl_detect.proofs.activities.activity_conflicts.Given as goal

abbrev pub invariant-loop-activity : goal.invariant-loop-activity
invariant-loop-activity l = l.out.items ≡ l.initial.out.items ++ flat_map (wrong_at l.s) (take l.activity-index l.activities)
