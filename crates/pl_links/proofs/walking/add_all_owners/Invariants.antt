use Rattle.std.proofs.Common.{◌≡◌, ◌++◌}
use Rattle.std.specs.Map.{values_of}
use Rattle.pl_links.specs.Near.{owners_all}
use Rattle.pl_links.proofs.walking.add_all_owners.Given as goal

abbrev pub invariant-loop-owner : goal.invariant-loop-owner
invariant-loop-owner l = l.near.items ++ owners_all l.owner-iterator l.group l.index ≡ l.initial.near.items ++ owners_all (values_of l.items.entries) l.group l.index
