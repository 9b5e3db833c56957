-- those before this place are in order
use Rattle.std.specs.Prelude.{take}
use Rattle.std.specs.List.Sorted.{IsStrictlySortedBy}
use Rattle.pl_entry.specs.Due.{start_cmp}
use Rattle.pl_machine.proofs.sorting.are_in_order.Given as goal

abbrev pub invariant-loop-place : goal.invariant-loop-place
invariant-loop-place l = IsStrictlySortedBy start_cmp (take l.place l.starts)
