use Rattle.std.proofs.Common.{◌≡◌, ◌++◌, take}
use Rattle.std.specs.List.{flat_map}
use Rattle.pl_semantics.specs.Goals.{open_at}
use Rattle.pl_detect.proofs.goals.add_open.Given as goal

abbrev pub invariant-loop-goal : goal.invariant-loop-goal
invariant-loop-goal l = l.out.items ≡ l.initial.out.items ++ flat_map (open_at l.s) (take l.goal-index l.goals)
