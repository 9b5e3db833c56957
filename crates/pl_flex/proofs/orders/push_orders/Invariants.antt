use Rattle.std.proofs.Common.{◌≡◌, ◌++◌, drop}
use Rattle.std.specs.List.{flat_map}
use Rattle.pl_flex.specs.FlexNets.{edges_of_parent}
use Rattle.pl_flex.proofs.orders.push_orders.Given as goal

-- the edges so far and those of the other parents
abbrev pub invariant-loop-parent : goal.invariant-loop-parent
invariant-loop-parent l = l.edges.items ++ flat_map (edges_of_parent l.s.model l.firm) (drop l.parent-index l.placed) ≡ l.initial.edges.items ++ flat_map (edges_of_parent l.s.model l.firm) l.placed
