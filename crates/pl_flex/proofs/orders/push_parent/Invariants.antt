use Rattle.std.proofs.Common.{◌≡◌, ◌++◌, drop}
use Rattle.std.specs.List.{flat_map}
use Rattle.pl_flex.specs.FlexNets.{edges_of_order, edges_of_parent}
use Rattle.pl_flex.proofs.orders.push_parent.Given as goal

-- the edges so far and those of the other orders
abbrev pub invariant-loop-order : goal.invariant-loop-order
invariant-loop-order l = l.edges.items ++ flat_map (edges_of_order l.firm l.parent.id) (drop l.order-index l.order-items) ≡ l.initial.edges.items ++ edges_of_parent l.s.model l.firm l.parent
