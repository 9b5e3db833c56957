-- the starts that are there, and those to come
use Rattle.std.proofs.Common.{◌≡◌, ◌++◌}
use Rattle.pl_machine.proofs.sorting.push_all.Given as goal

abbrev pub invariant-loop-start : goal.invariant-loop-start
invariant-loop-start l = l.starts.items ++ l.start-iterator ≡ l.initial.starts.items ++ l.set.keys
