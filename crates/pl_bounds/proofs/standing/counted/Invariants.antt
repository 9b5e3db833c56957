use Rattle.std.proofs.Common.{◌+◌, ◌≤◌, filter, length}
use Rattle.pl_bounds.specs.Plain.{is_plain}
use Rattle.pl_bounds.specs.Standing.{is_unmoved_one, is_valueless_one}
use Rattle.pl_bounds.proofs.standing.counted.Given as goal

-- with those among the others they are no more than all
abbrev pub invariant-loop-conflict : goal.invariant-loop-conflict
invariant-loop-conflict l = record {
  wrong : l.counts.wrong + length (filter is_plain l.conflict-iterator) ≤ length (filter is_plain l.conflicts);
  unmoved : l.counts.unmoved + length (filter is_unmoved_one l.conflict-iterator) ≤ length (filter is_unmoved_one l.conflicts);
  valueless : l.counts.valueless + length (filter is_valueless_one l.conflict-iterator) ≤ length (filter is_valueless_one l.conflicts);
}
