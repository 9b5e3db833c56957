use Rattle.std.proofs.Common.{◌≡◌, ◌++◌}
use Rattle.pl_links.specs.Near.{all_below}
use Rattle.pl_links.proofs.near.add_below.Given as goal

abbrev pub invariant-loop-at : goal.invariant-loop-at
invariant-loop-at l = l.near.items ≡ l.initial.near.items ++ all_below l.id l.slots l.at
