use Rattle.std.proofs.Common.{◌≡◌, drop}
use Rattle.pl_check.specs.Cycles.{unmarked_from}
use Rattle.pl_check.proofs.cycles.unmarked_vertex.Given as goal

-- the rest gives the whole
abbrev pub invariant-loop-vertex : goal.invariant-loop-vertex
invariant-loop-vertex l = unmarked_from l.marks l.vertex (drop l.vertex l.graph) ≡ unmarked_from l.marks 0 l.graph
