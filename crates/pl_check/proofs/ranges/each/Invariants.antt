use Rattle.std.proofs.Common.{◌≡◌, drop}
use Rattle.pl_check.specs.Judgements.{each}
use Rattle.pl_check.proofs.ranges.each.Given as goal

-- the rest gives the whole
abbrev pub invariant-loop-item : goal.invariant-loop-item
invariant-loop-item g l = each (g.T.Ranged.ranged) (drop l.item-index l.items) ≡ each (g.T.Ranged.ranged) l.items
