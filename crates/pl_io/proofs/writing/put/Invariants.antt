use Rattle.std.proofs.Common.{length, ◌-◌, ◌≡◌, ◌≤◌, ◌++◌, take, Some, None, IfSome}
use Rattle.pl_io.proofs.writing.put.Given as goal

abbrev pub invariant-loop-written : goal.invariant-loop-written
invariant-loop-written g l =
    (l.written ≤ length l.bytes)
    × IfSome (g.O.Sink.held l.initial.out) (λ before. g.O.Sink.held l.out ≡ Some (before ++ take l.written l.bytes))
    × (g.O.Sink.held l.initial.out ≡ None → g.O.Sink.held l.out ≡ None)
    × (g.O.Sink.faults l.out ≡ g.O.Sink.faults l.initial.out)

abbrev pub decreases-loop-written : goal.decreases-loop-written
decreases-loop-written g l = length l.bytes - l.written
