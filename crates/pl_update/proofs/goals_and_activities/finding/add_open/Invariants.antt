use Rattle.std.proofs.Common.{◌≡◌, ◌++◌, take}
use Rattle.std.specs.List.{flat_map}
use Rattle.pl_semantics.specs.Goals.{open_of}
use Rattle.pl_update.proofs.goals_and_activities.finding.add_open.Given as goal

abbrev pub invariant-loop-number : goal.invariant-loop-number
invariant-loop-number l = l.out.items ≡ l.initial.out.items ++ flat_map (open_of l.s) (take l.number-index l.numbers)
