use Rattle.std.proofs.Common.{◌≡◌, ◌++◌, take}
use Rattle.std.specs.List.{flat_map}
use Rattle.pl_semantics.specs.Goals.{off_of}
use Rattle.pl_update.proofs.goals_and_activities.finding.add_off.Given as goal

abbrev pub invariant-loop-id : goal.invariant-loop-id
invariant-loop-id l = l.out.items ≡ l.initial.out.items ++ flat_map (off_of l.s) (take l.id-index l.ids)
