use Rattle.std.proofs.Common.{◌≡◌, ◌≤◌, drop}
use Rattle.pl_check.specs.Counts.{counts_in_items, counts_in}
use Rattle.pl_check.proofs.counts.count_all.Given as goal

-- the rest gives the whole
abbrev pub invariant-loop-item : goal.invariant-loop-item
invariant-loop-item l = record {
  lines : l.lines ≤ 256;
  kinds : l.kinds ≤ 256;
  rest : counts_in_items l.lines l.kinds (drop l.item-index l.fn.ast.items) ≡ counts_in l.fn.ast;
}
