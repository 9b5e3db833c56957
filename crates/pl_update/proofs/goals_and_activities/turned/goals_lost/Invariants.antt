use Rattle.std.proofs.Common.{◌≡◌, take, filter}
use Rattle.std.specs.Prelude.{not}
use Rattle.std.specs.List.{flat_map}
use Rattle.pl_update.specs.GoalsAndActivities.Touched.{served_at, served_after}
use Rattle.pl_update.proofs.goals_and_activities.turned.goals_lost.Given as goal

abbrev pub invariant-loop-id : goal.invariant-loop-id
invariant-loop-id l = l.numbers.items ≡ flat_map (λ id. filter (λ n. not (served_after l.placed n)) (served_at l.s id)) (take l.id-index l.gone)
