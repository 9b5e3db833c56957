use Rattle.std.proofs.Common.{◌≡◌, take}
use Rattle.pl_lists.proofs.copied.ItemsCopied.copy.Given as goal

-- the copy has the items so far
abbrev pub invariant-loop-item : goal.invariant-loop-item
invariant-loop-item g l = l.all ≡ take l.item-index l.item-items
