use Rattle.std.proofs.Common.{◌≡◌, ◌++◌, take}
use Rattle.std.specs.List.{flat_map}
use Rattle.pl_semantics.specs.Goals.{off_at}
use Rattle.pl_detect.proofs.goals.add_off.Given as goal

abbrev pub invariant-loop-activity : goal.invariant-loop-activity
invariant-loop-activity l = l.out.items ≡ l.initial.out.items ++ flat_map (off_at l.s) (take l.activity-index l.activities)
