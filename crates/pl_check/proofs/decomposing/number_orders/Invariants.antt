use Rattle.std.proofs.Common.{◌≡◌, drop, length, All}
use Rattle.pl_check.specs.Judgements.{each_made}
use Rattle.pl_check.proofs.LoopLemmas.{each_made_from}
use Rattle.pl_check.specs.Sound.{IsOrderOf}
use Rattle.pl_check.specs.Numbering.{numbered_order}
use Rattle.pl_check.proofs.decomposing.number_orders.Given as goal

-- the rest gives the whole
abbrev pub invariant-loop-order : goal.invariant-loop-order
invariant-loop-order l = record {
  each_order : length l.all ≡ l.order-index;
  slots_named : All (IsOrderOf (length l.slots)) l.all;
  rest : each_made_from (numbered_order l.slots) l.all (drop l.order-index l.orders) ≡ each_made (numbered_order l.slots) l.orders;
}
