use Rattle.std.proofs.Common.{◌≡◌, ◌++◌, drop}
use Rattle.std.specs.Map.{values_of}
use Rattle.pl_links.specs.Near.{owners_in}
use Rattle.pl_links.proofs.near.add_owners_in.Given as goal

abbrev pub invariant-loop-at : goal.invariant-loop-at
invariant-loop-at l = l.near.items ++ owners_in (values_of l.items.entries) l.files l.group (drop l.at l.links) l.at l.item ≡ l.initial.near.items ++ owners_in (values_of l.items.entries) l.files l.group l.links 0 l.item
