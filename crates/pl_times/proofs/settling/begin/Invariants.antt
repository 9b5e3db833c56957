use Rattle.std.specs.BinaryHeap.{heap_items}
use Rattle.pl_times.proofs.Looking.{HaveQueued}
use Rattle.pl_times.proofs.settling.begin.Given as goal

abbrev pub invariant-loop-point : goal.invariant-loop-point
invariant-loop-point l = HaveQueued l.net l.known l.times.items (heap_items l.queue) l.point
