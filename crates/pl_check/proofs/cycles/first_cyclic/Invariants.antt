use Rattle.pl_check.specs.Cycles.{IsAcyclicBelow}
use Rattle.pl_check.proofs.cycles.first_cyclic.Given as goal

abbrev pub invariant-loop-vertex : goal.invariant-loop-vertex
invariant-loop-vertex l = IsAcyclicBelow l.graph l.vertex
