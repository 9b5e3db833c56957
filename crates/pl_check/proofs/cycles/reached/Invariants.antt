use Rattle.std.proofs.Common.{◌≡◌, length}
use Rattle.pl_check.specs.Cycles.{AreReached, unmarked}
use Rattle.pl_check.proofs.cycles.reached.Given as goal

abbrev pub invariant-marking : goal.invariant-marking
invariant-marking l = record {
  each_vertex : length l.marks.items ≡ length l.graph;
  marked : AreReached l.graph l.start l.marks.items;
}

abbrev pub decreases-marking : goal.decreases-marking
decreases-marking l = unmarked l.marks.items
