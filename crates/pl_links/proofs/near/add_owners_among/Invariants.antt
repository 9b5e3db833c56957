use Rattle.std.proofs.Common.{◌≡◌, ◌++◌, drop}
use Rattle.std.specs.Map.{values_of}
use Rattle.pl_links.specs.Near.{owners_among}
use Rattle.pl_links.proofs.near.add_owners_among.Given as goal

abbrev pub invariant-loop-at : goal.invariant-loop-at
invariant-loop-at l = l.near.items ++ owners_among (values_of l.items.entries) l.files (drop l.at l.kinds) l.at l.item ≡ l.initial.near.items ++ owners_among (values_of l.items.entries) l.files l.kinds 0 l.item
