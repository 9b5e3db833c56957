use Rattle.std.proofs.Common.{◌+◌, ◌-◌, ◌≤◌}
use Rattle.pl_journal.proofs.AboutWriting.{AddsFront}
use Rattle.pl_many.specs.Tallies.{lines_from, lines_of}
use Rattle.pl_many.proofs.lines.write_tallies.Given as goal

abbrev pub invariant-loop-before : goal.invariant-loop-before
invariant-loop-before g l =
    AddsFront (g.O.Sink.held l.initial.out) (g.O.Sink.held l.out) (lines_from (l.before + 1) (l.planners - l.before) l.marks l.log) (lines_of l.planners l.marks l.log)
    × (g.O.Sink.faults l.initial.out ≤ g.O.Sink.faults l.out)
