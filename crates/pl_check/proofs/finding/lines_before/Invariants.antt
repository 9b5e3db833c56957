use Rattle.std.proofs.Common.{◌≡◌, ◌≤◌, ◌+◌, drop, count_by}
use Rattle.pl_check.specs.Finding.{is_line}
use Rattle.pl_check.proofs.finding.lines_before.Given as goal

-- the rest gives the whole
abbrev pub invariant-loop-item : goal.invariant-loop-item
invariant-loop-item l = record {
  small : l.count ≤ l.item-index;
  rest : l.count + count_by is_line (drop l.item-index l.item-items) ≡ count_by is_line l.item-items;
}
