use Rattle.std.proofs.Common.{◌≡◌, take}
use Rattle.pl_board.proofs.asking.asked_by.Given as goal
use Rattle.std.specs.List.{flat_map}
use Rattle.pl_semantics.specs.PlanStates.{found, of_found}
use Rattle.pl_semantics.specs.Demands.{demands_at}

abbrev pub invariant-loop-id : goal.invariant-loop-id
invariant-loop-id l = l.all.items ≡ flat_map (λ id. of_found (demands_at l.s) (found l.s id)) (take l.id-index l.ids)
