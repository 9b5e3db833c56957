use Rattle.std.proofs.Common.{◌≡◌, ◌++◌, take}
use Rattle.std.specs.List.{flat_map}
use Rattle.pl_cand.specs.ById.{moves_of_id}
use Rattle.pl_cand.proofs.timelines.add_all_moves.Given as goal

abbrev pub invariant-loop-id : goal.invariant-loop-id
invariant-loop-id l = l.out.items ≡ l.initial.out.items ++ flat_map (moves_of_id l.state) (take l.id-index l.ids)
