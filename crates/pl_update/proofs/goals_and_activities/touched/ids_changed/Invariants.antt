use Rattle.std.proofs.Common.{◌≡◌, ◌++◌, map, take}
use Rattle.pl_plan.specs.Trees.{id_of}
use Rattle.pl_update.proofs.goals_and_activities.touched.ids_changed.Given as goal

abbrev pub invariant-loop-a : goal.invariant-loop-a
invariant-loop-a l = l.ids.items ≡ l.gone ++ map id_of (take l.a-index l.placed)
