use Rattle.std.proofs.Common.{◌≡◌, take, filter}
use Rattle.std.specs.Prelude.{not}
use Rattle.std.specs.List.{flat_map}
use Rattle.std.specs.Option.{option_to_list}
use Rattle.pl_plan.specs.Serving.{served_in}
use Rattle.pl_update.specs.GoalsAndActivities.Touched.{served_before}
use Rattle.pl_update.proofs.goals_and_activities.turned.goals_met.Given as goal

abbrev pub invariant-loop-a : goal.invariant-loop-a
invariant-loop-a l = l.numbers.items ≡ flat_map (λ a. filter (λ n. not (served_before l.s l.gone n)) (option_to_list (served_in a))) (take l.a-index l.placed)
