use Rattle.std.proofs.Common.{◌≡◌, drop}
use Rattle.pl_check.specs.Judgements.{each}
use Rattle.pl_check.specs.Ranges.{range_in_order}
use Rattle.pl_check.proofs.distances.judge_orders.Given as goal

-- the rest gives the whole
abbrev pub invariant-loop-order : goal.invariant-loop-order
invariant-loop-order l = each (range_in_order l.horizon) (drop l.order-index l.orders) ≡ each (range_in_order l.horizon) l.orders
