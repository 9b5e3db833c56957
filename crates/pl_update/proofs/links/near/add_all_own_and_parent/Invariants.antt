use Rattle.std.proofs.Common.{◌≡◌, ◌++◌, take}
use Rattle.std.specs.List.{flat_map}
use Rattle.pl_update.specs.Links.Near.{own_and_parent}
use Rattle.pl_update.proofs.links.near.add_all_own_and_parent.Given as goal

abbrev pub invariant-loop-a : goal.invariant-loop-a
invariant-loop-a l = l.ids.items ≡ l.initial.ids.items ++ flat_map own_and_parent (take l.a-index l.placed)
