use Rattle.std.proofs.Common.{◌≡◌, ◌++◌, take}
use Rattle.std.specs.List.{flat_map}
use Rattle.pl_update.specs.Links.Near.{ids_at}
use Rattle.pl_update.proofs.links.near.add_all_ids_at.Given as goal

abbrev pub invariant-loop-id : goal.invariant-loop-id
invariant-loop-id l = l.ids.items ≡ l.initial.ids.items ++ flat_map (ids_at l.s) (take l.id-index l.gone)
