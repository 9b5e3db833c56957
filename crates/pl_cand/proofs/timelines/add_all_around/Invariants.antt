use Rattle.std.proofs.Common.{◌≡◌, ◌++◌, take}
use Rattle.std.specs.List.{flat_map}
use Rattle.pl_cand.specs.ById.{around_id}
use Rattle.pl_cand.proofs.timelines.add_all_around.Given as goal

abbrev pub invariant-loop-id : goal.invariant-loop-id
invariant-loop-id l = l.out.items ≡ l.initial.out.items ++ flat_map (around_id l.state l.a l.b) (take l.id-index l.ids)
