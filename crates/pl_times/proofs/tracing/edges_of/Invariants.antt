use Rattle.std.proofs.Common.{◌≡◌, take}
use Rattle.pl_times.specs.Times.{edges_of}
use Rattle.pl_times.proofs.tracing.edges_of.Given as goal

abbrev pub invariant-loop-number : goal.invariant-loop-number
invariant-loop-number l = l.all.items ≡ edges_of l.net (take l.number-index l.numbers)
