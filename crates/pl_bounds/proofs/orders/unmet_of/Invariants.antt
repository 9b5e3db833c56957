-- what was counted and what the rest may be
use Rattle.std.proofs.Common.{◌+◌, ◌≤◌, drop, filter, length}
use Rattle.pl_semantics.specs.Links.{placed_in}
use Rattle.pl_bounds.specs.Orders.{is_unmet_with}
use Rattle.pl_bounds.proofs.orders.unmet_of.Given as goal

abbrev pub invariant-loop-order : goal.invariant-loop-order
invariant-loop-order l = (l.count + length (filter (is_unmet_with (placed_in l.board.state) l.parent l.child) (drop l.order-index l.orders))) ≤ length (filter (is_unmet_with (placed_in l.board.state) l.parent l.child) l.orders)
