-- the starts that are left give the whole
use Rattle.std.proofs.Common.{◌≡◌, [], drop}
use Rattle.pl_entry.specs.Due.{with_starts}
use Rattle.pl_machine.proofs.sorting.set_of.Given as goal

abbrev pub invariant-loop-start : goal.invariant-loop-start
invariant-loop-start l = with_starts l.set.keys (drop l.start-index l.starts) ≡ with_starts [] l.starts
