use Rattle.std.proofs.Common.{◌≡◌, ◌≤◌, ◌+◌, ◌*◌, ◌++◌, length, drop}
use Rattle.pl_stn.specs.Nets.{IsWellFormed}
use Rattle.pl_check.specs.Networks.{orders_edges}
use Rattle.pl_check.proofs.networks.add_orders.Given as goal

-- the rest gives the whole
abbrev pub invariant-loop-order : goal.invariant-loop-order
invariant-loop-order l = record {
  well_formed : IsWellFormed l.net;
  points : l.net.points ≡ l.initial.net.points;
  room : length l.net.edges ≤ length l.initial.net.edges + 2 * l.order-index;
  rest : l.net.edges ++ orders_edges (drop l.order-index l.orders) ≡ l.initial.net.edges ++ orders_edges l.orders;
}
