use Rattle.std.proofs.Common.{◌≤◌}
use Rattle.pl_input.specs.Places.{place_of}
use Rattle.pl_main.specs.Plays.{AnswersMessages}
use Rattle.pl_main.proofs.play.play.Given as goal

-- the messages so far
abbrev pub invariant-messages : goal.invariant-messages
invariant-messages g l = record {
  so_far : AnswersMessages g.P.Planner.rule l.initial.machine (place_of l.initial.lines (g.S.Source.left l.initial.src)) (g.O.Sink.held l.initial.out) l.machine (place_of l.lines (g.S.Source.left l.src)) (g.O.Sink.held l.out);
  reads : g.S.Source.faults l.initial.src ≤ g.S.Source.faults l.src;
  writes : g.O.Sink.faults l.initial.out ≤ g.O.Sink.faults l.out;
}

abbrev pub decreases-messages : goal.decreases-messages
decreases-messages g l = l.lines.room
