use Rattle.std.proofs.Common.{refl, sym, subst}
use Rattle.std.specs.List.Sorted.{IsStrictlySortedBy}
use Rattle.pl_entry.specs.Due.{start_cmp}
use Rattle.pl_machine.proofs.InOrder.{sorted_starts}
use Rattle.pl_machine.proofs.sorting.sort.Goals as goal

pub returns-then-are_in_order : goal.returns-then-are_in_order
returns-then-are_in_order c = sym (sorted_starts c.args.starts.now.items (subst (IsStrictlySortedBy start_cmp) c.deref.ensures.value (c.if-are_in_order.ensures refl)))
