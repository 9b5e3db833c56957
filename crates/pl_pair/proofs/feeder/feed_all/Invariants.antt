use Rattle.std.proofs.Common.{◌≤◌}
use Rattle.pl_pair.specs.Workers.{AreHands, SameDuties}
use Rattle.pl_input.specs.Places.{place_of}
use Rattle.pl_pair.specs.Feeds.{Feeding}
use Rattle.pl_pair.proofs.feeder.feed_all.Given as goal

-- the messages so far
abbrev pub invariant-loop : goal.invariant-loop
invariant-loop g l = record {
  hands : AreHands l.plan l.hands;
  duties : SameDuties l.initial.hands l.hands;
  so_far : Feeding l.plan l.model l.initial.pass (place_of l.initial.lines (g.S.Source.left l.initial.src)) (g.O.Sink.held l.initial.out) l.pass (place_of l.lines (g.S.Source.left l.src)) (g.O.Sink.held l.out) l.from;
  reads : g.S.Source.faults l.initial.src ≤ g.S.Source.faults l.src;
  writes : g.O.Sink.faults l.initial.out ≤ g.O.Sink.faults l.out;
}
