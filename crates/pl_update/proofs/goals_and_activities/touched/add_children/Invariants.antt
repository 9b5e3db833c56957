use Rattle.std.proofs.Common.{◌≡◌, ◌++◌, take}
use Rattle.std.specs.List.{flat_map}
use Rattle.pl_update.specs.GoalsAndActivities.Touched.{children_at}
use Rattle.pl_update.proofs.goals_and_activities.touched.add_children.Given as goal

abbrev pub invariant-loop-id : goal.invariant-loop-id
invariant-loop-id l = l.ids.items ≡ l.initial.ids.items ++ flat_map (children_at l.s) (take l.id-index l.gone)
